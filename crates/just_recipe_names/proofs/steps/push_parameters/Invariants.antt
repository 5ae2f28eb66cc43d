use Rattle.std.proofs.Common.{◌≡◌, ◌++◌, drop}
use Rattle.just_parts.specs.Scopes.{parameter_expressions}
use Rattle.just_recipe_names.specs.Steps.{events}
use Rattle.just_recipe_names.specs.loops.Steps.{parameter_events}
use Rattle.just_recipe_names.proofs.steps.push_parameters.Given as goal

abbrev pub invariant-loop-parameter : goal.invariant-loop-parameter
invariant-loop-parameter l =
    events l.fn.found.items ++ parameter_events parameter_expressions l.parameters
    ≡ events l.found.items ++ parameter_events parameter_expressions (drop l.parameter-index l.parameters)
