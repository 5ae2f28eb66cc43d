use Rattle.std.proofs.Common.{◌≡◌, take, map}
use Rattle.just_module_contents.specs.Recipes.{name_of_recipe, recipe_at}
use Rattle.just_module_contents.specs.Definitions.{recipes_in}
use Rattle.just_module_recipes.proofs.recipe_order.names_at.Given as goal

abbrev pub invariant-loop-place : goal.invariant-loop-place
invariant-loop-place l = l.names ≡ map (λ place. name_of_recipe (recipe_at (recipes_in l.kept) place)) (take l.place-index l.places)
