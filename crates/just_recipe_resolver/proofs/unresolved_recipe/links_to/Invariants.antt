use Rattle.std.proofs.Common.{◌≡◌, take}
use Rattle.just_module_contents.specs.Recipes.{lent}
use Rattle.just_recipe_resolver.specs.Resolved.{links_to}
use Rattle.just_recipe_resolver.proofs.unresolved_recipe.links_to.Given as goal

abbrev pub invariant-loop-at : goal.invariant-loop-at
invariant-loop-at l = l.made.items ≡ links_to l.settings.lists (take l.at l.dependencies) (take l.at (lent l.beside.recipes.items))
