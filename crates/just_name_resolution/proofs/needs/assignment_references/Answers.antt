use Rattle.std.proofs.Common.{◌≡◌, ◌∙◌, false, refl, sym, ap, subst}
use Rattle.std.specs.HashSet.{contains}
use Rattle.std.specs.List.{list_any}
use Rattle.std.specs.Str.{bytes_eq}
use Rattle.just_names.specs.declared.number.Number.{Number}
use Rattle.just_parts.specs.Needs.{Gains, GainsAll, has_number, same_number}
use Rattle.just_name_resolution.proofs.LookingAt.{found_some}
use Rattle.just_name_resolution.proofs.Searching.{CollectsValue, needs_of_name, value_collected, value_stopped}
use Rattle.just_name_resolution.proofs.needs.assignment_references.Goals as goal
use Rattle.just_name_resolution.proofs.needs.assignment_references.Goals.{then-not-contains_key+in_ok-collect_references, else-not-contains_key}
use Rattle.just_parts.specs.Known.{hides}
use Rattle.just_name_resolution.specs.Lent.{tables_in}
use Rattle.just_parts.specs.Reading.{Reads}

pub returns-clause-needed : goal.returns-clause-needed
returns-clause-needed c =
    let m = tables_in c.args.tables.now in
    let name = c.args.name.now in
    let a = c.in-Some.assignment.now in
    let overridden = has_number c.args.overrides.now in
    let inner = contains same_number c.if-not-contains_key.references in
    let nothing : ((n : Number) → contains same_number c.new-references.result n ≡ false) = λ n. ap (list_any (same_number n)) c.new-references.ensures.empty in
    let value : CollectsValue m overridden a inner = elim c.if-not-contains_key.branch [
      | then-not-contains_key+in_ok-collect_references w ↦
          let hidden = hides w.as_slice.result.now in
          let old = contains same_number c.new-references.result in
          value_collected m overridden a inner (sym c.contains_key.ensures ∙ w.if-not-contains_key.true) hidden old (contains bytes_eq w.new-visited.result)
          (λ x. ap (λ ps. hides ps x) (w.as_slice.ensures.value ∙ w.new-parameters.ensures.items)) nothing (λ x. ap (list_any (bytes_eq x)) w.new-visited.ensures.empty)
          (subst (λ s. Gains m overridden (Reads m hidden a.value) old (contains same_number s)) (sym w.references-is) w.in_ok-collect_references.ensures.gains)
          (λ read. subst (λ s. GainsAll m overridden (Reads m hidden a.value) old (contains same_number s)) (sym w.references-is) (w.in_ok-collect_references.ensures.all read))
      | else-not-contains_key w ↦
          value_stopped m overridden a inner (sym c.contains_key.ensures ∙ w.if-not-contains_key.false) (λ n. ap (λ s. contains same_number s n) w.references-is ∙ nothing n)
    ] in
    needs_of_name m overridden name a (found_some c.get.result c.in-Some.assignment name name m.assignments c.get.ensures refl c.in-Some.is) inner (contains same_number c.insert.new.self)
    (λ n. c.in_ok-insert.ensures.updates.0 n) value.stops value.gains value.all
