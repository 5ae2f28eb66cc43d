use Rattle.std.proofs.Common.{◌≡◌, map, take}
use Rattle.std.specs.HashSet.{contains}
use Rattle.std.specs.List.{list_any}
use Rattle.just_ast_definitions.specs.declared.assignment.Assignment.{Assignment}
use Rattle.just_names.specs.declared.number.Number.{Number}
use Rattle.just_parts.specs.Needs.{same_number}
use Rattle.just_evaluate.proofs.variables.target_numbers.Given as goal

abbrev pub invariant-loop-place : goal.invariant-loop-place
invariant-loop-place l =
    (n : Number) → contains same_number l.numbers n ≡ list_any (λ (a : Assignment). same_number n a.number) (map (λ a. a.now) (take l.place l.variables.items))
