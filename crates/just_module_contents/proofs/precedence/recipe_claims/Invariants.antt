use Rattle.std.proofs.Common.{◌≡◌, map, take}
use Rattle.just_module_contents.specs.Definitions.{recipes_in}
use Rattle.just_module_contents.specs.Kept.{claim_of_recipe}
use Rattle.just_module_contents.proofs.precedence.recipe_claims.Given as goal

abbrev pub invariant-loop-place : goal.invariant-loop-place
invariant-loop-place l = l.claims.items ≡ map claim_of_recipe (take l.place (recipes_in l.definitions))
