use Rattle.std.proofs.Common.{◌≡◌, true, false, [], ◌∷◌, map, Some, refl, sym, subst, rules}
use Rattle.std.specs.Option.{option_map}
use Rattle.std.proofs.lemmas.List.{map-append}
use Rattle.just_scopes.specs.Opening.{opened_at, opened_of}
use Rattle.just_scopes.proofs.Under.{has_path, opened-taken}
use Rattle.just_scopes.proofs.scopes.opened_at.Goals as goal

pub loop-module-preserved-then-eq : goal.loop-module-preserved-then-eq
loop-module-preserved-then-eq c =
    let o = opened_of c.in-Some.module in
    let is : has_path o c.args.path.now ≡ true = search rules in
    subst (λ os. Some o ≡ opened_at c.args.path.now os) (sym (map-append opened_of c.loop-module.yielded (c.in-Some.module ∷ [])))
    (opened-taken c.args.path.now (map opened_of c.loop-module.yielded) o true (Some o) is refl)

pub loop-module-preserved : goal.loop-module-preserved
loop-module-preserved c =
    let o = opened_of c.in-Some.module in
    let is : has_path o c.args.path.now ≡ false = search rules in
    subst (λ os. option_map opened_of c.loop-module.found ≡ opened_at c.args.path.now os) (sym (map-append opened_of c.loop-module.yielded (c.in-Some.module ∷ [])))
    (opened-taken c.args.path.now (map opened_of c.loop-module.yielded) o false (option_map opened_of c.loop-module.found) is c.loop-module.invariant)
