use Rattle.std.proofs.Common.{◌≡◌, ◌++◌, map}
use Rattle.just_module_variables.specs.loops.Places.{targets_in}
use Rattle.just_parts.specs.loops.Scopes.{body_scoped}
use Rattle.just_module_variables.specs.loops.Steps.{rows_of}
use Rattle.just_module_variables.proofs.nodes.add_body_rows.Given as goal

abbrev pub invariant-loop-function : goal.invariant-loop-function
invariant-loop-function l =
    rows_of l.rows.items ≡ rows_of l.initial.rows.items ++ map (targets_in l.places) (map body_scoped (map (λ f. f.now) l.yielded))
