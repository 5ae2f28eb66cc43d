use Rattle.std.proofs.Common.{◌≡◌, ◌++◌, drop}
use Rattle.just_module_contents.specs.Constants.{constant_expressions}
use Rattle.just_module_contents.specs.Definitions.{contents_in, docs_in}
use Rattle.just_module_contents.specs.Recipes.{lent}
use Rattle.just_module_variables.proofs.expressions.constant_expressions.Given as goal

abbrev pub invariant-loop-place : goal.invariant-loop-place
invariant-loop-place l = constant_expressions (contents_in l.definitions) ≡ lent l.found.items ++ drop l.place (docs_in l.definitions)
