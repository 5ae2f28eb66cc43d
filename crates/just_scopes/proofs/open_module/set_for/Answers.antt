use Rattle.std.proofs.Common.{◌≡◌, false, true, None, Some, sym, subst, rules}
use Rattle.std.specs.HashSet.{contains}
use Rattle.just_parts.specs.Needs.{same_number}
use Rattle.just_scopes.specs.Need.{IsFound}
use Rattle.just_scopes.specs.loops.Opens.{IsSetFor, all, some}
use Rattle.just_scopes.proofs.open_module.set_for.Goals as goal

pub returns-then-not-module : goal.returns-then-not-module
returns-then-not-module c =
    let off : c.args.«module».now.is_lazy ≡ false = search rules in
    subst (λ b. IsSetFor (contains same_number c.args.used.now) c.args.«module».now.justfile.now b None) (sym off) all

pub returns : goal.returns
returns c =
    let on : c.args.«module».now.is_lazy ≡ true = search rules in
    let used = contains same_number c.args.used.now in
    let found : IsFound used c.args.«module».now.justfile.now (contains same_number c.in_ok-new.field-0) =
    subst (λ s. IsFound used c.args.«module».now.justfile.now (contains same_number s)) (sym c.in_ok-new.ensures) c.in_ok-set.ensures in
    subst (λ b. IsSetFor used c.args.«module».now.justfile.now b (Some (contains same_number c.in_ok-new.field-0))) (sym on) (some found)
