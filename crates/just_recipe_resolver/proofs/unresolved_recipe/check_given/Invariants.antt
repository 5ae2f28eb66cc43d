use Rattle.just_module_contents.specs.Recipes.{lent}
use Rattle.just_recipe_resolver.proofs.Given.{GiveRightly}
use Rattle.just_recipe_resolver.proofs.unresolved_recipe.check_given.Given as goal

abbrev pub invariant-loop-at : goal.invariant-loop-at
invariant-loop-at l = GiveRightly l.settings.lists l.dependencies (lent l.beside.recipes.items) l.at
