use Rattle.std.proofs.Common.{◌≡◌, ◌∙◌, ◌++◌, ap, sym, subst}
use Rattle.std.specs.List.{Contains}
use Rattle.std.proofs.lemmas.Cmp.{nat_eq_equiv, on_equiv}
use Rattle.std.proofs.lemmas.List.{append-nil}
use Rattle.std.proofs.lemmas.Map.Views.{hash_set_contains_iff}
use Rattle.just_name_resolution.proofs.Sets.{one_number}
use Rattle.just_names.specs.declared.number.Number.{Number}
use Rattle.just_recipe_needs.proofs.collection.listed.Goals as goal

pub returns-clause-all : goal.returns-clause-all
returns-clause-all c = λ n.
    let found = c.loop-number.found in
    let all : found ≡ c.args.numbers.keys = sym (append-nil found) ∙ (ap (λ rest. found ++ rest) (sym c.in-None.ensures.steps.0) ∙ c.loop-number.invariant) in
    let has = hash_set_contains_iff (on_equiv (λ (k : Number). k.0) nat_eq_equiv) one_number c.args.numbers n in
    (λ h. has.1 (subst (λ ks. Contains ks n) all h), λ h. subst (λ ks. Contains ks n) (sym all) (has.0 h))
