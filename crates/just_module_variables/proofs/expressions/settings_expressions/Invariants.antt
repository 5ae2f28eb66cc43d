use Rattle.std.proofs.Common.{◌≡◌, ◌++◌, drop}
use Rattle.std.specs.List.{flat_map}
use Rattle.just_module_contents.specs.Constants.{settings_expressions}
use Rattle.just_module_contents.specs.Definitions.{contents_in, sets_in}
use Rattle.just_module_contents.specs.Recipes.{lent}
use Rattle.just_parts.specs.Evaluator.{set_expressions}
use Rattle.just_module_variables.proofs.expressions.settings_expressions.Given as goal

abbrev pub invariant-loop-place : goal.invariant-loop-place
invariant-loop-place l = settings_expressions (contents_in l.definitions) ≡ lent l.found.items ++ flat_map set_expressions (drop l.place (sets_in l.definitions))
