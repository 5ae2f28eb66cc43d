use Rattle.std.proofs.Common.{◌≡◌, ◌++◌, drop}
use Rattle.std.specs.List.{flat_map}
use Rattle.just_module_contents.specs.Constants.{recipe_expressions}
use Rattle.just_module_contents.specs.Definitions.{recipes_in}
use Rattle.just_module_contents.specs.Recipes.{lent}
use Rattle.just_module_variables.proofs.expressions.push_recipes.Given as goal

abbrev pub invariant-loop-place : goal.invariant-loop-place
invariant-loop-place l =
    lent l.fn.found.items ++ flat_map recipe_expressions (recipes_in l.definitions)
    ≡ lent l.found.items ++ flat_map recipe_expressions (drop l.place (recipes_in l.definitions))
