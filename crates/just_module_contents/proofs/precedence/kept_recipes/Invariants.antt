use Rattle.just_module_contents.specs.Definitions.{recipes_in}
use Rattle.just_module_contents.specs.Kept.{claim_of_recipe}
use Rattle.just_module_contents.specs.Recipes.{lent}
use Rattle.just_module_contents.proofs.Keeping.{KeepsSoFar}
use Rattle.just_module_contents.proofs.precedence.kept_recipes.Given as goal

abbrev pub invariant-loop-place : goal.invariant-loop-place
invariant-loop-place l = KeepsSoFar claim_of_recipe (recipes_in l.definitions) l.place (lent l.kept.items)
