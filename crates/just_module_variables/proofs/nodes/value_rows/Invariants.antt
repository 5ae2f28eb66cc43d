use Rattle.std.proofs.Common.{◌≡◌, map}
use Rattle.just_module_variables.specs.loops.Places.{targets_in}
use Rattle.just_parts.specs.loops.Scopes.{value_scoped}
use Rattle.just_module_variables.specs.loops.Steps.{rows_of}
use Rattle.just_module_variables.proofs.nodes.value_rows.Given as goal

abbrev pub invariant-loop-assignment : goal.invariant-loop-assignment
invariant-loop-assignment l = rows_of l.rows.items ≡ map (targets_in l.places) (map value_scoped (map (λ a. a.now) l.yielded))
