use Rattle.std.proofs.Common.{◌≡◌, ◌∙◌, ◌||◌, ap, subst}
use Rattle.std.specs.HashSet.{contains}
use Rattle.std.specs.List.{list_any}
use Rattle.just_ast_definitions.specs.declared.assignment.Assignment.{Assignment}
use Rattle.just_justfile.specs.Running.{known_by_tables}
use Rattle.just_justfile.specs.declared.justfile.Justfile.{out-Justfile}
use Rattle.just_names.specs.declared.number.Number.{Number}
use Rattle.just_parts.specs.Needs.{AreNeededBy, has_number, same_number}
use Rattle.just_scopes.specs.loops.Wanting.{free_values}
use Rattle.just_scopes.proofs.Wanting.{all-found}
use Rattle.just_scopes.proofs.needs.wanted_numbers.Goals as goal

pub returns : goal.returns
returns c =
    let j = c.args.«module».now in
    let starts = c.in_ok-starts.ensures.starts in
    all-found (contains same_number c.args.used.now) j c.in_ok-starts.ensures.sorted c.requires (contains same_number c.in_ok-set.set) (contains same_number c.add_own.new.set)
    (subst (λ es. AreNeededBy (known_by_tables j) (has_number (out-Justfile j).overridden) es (contains same_number c.in_ok-set.set)) (c.in_ok-values.ensures ∙ ap (free_values j) starts) c.in_ok-set.ensures.needed)
    (subst (λ xs. (n : Number) → contains same_number c.add_own.new.set n ≡ (contains same_number c.in_ok-set.set n || list_any (λ (a : Assignment). same_number n a.number) xs)) starts c.in_ok-add_own.ensures)
