use Rattle.std.proofs.Common.{◌≢◌, ℕ, ◌<◌, get_or}
use Rattle.just_module_recipes.specs.declared.targets.Target.TheVariants.{Near}
use Rattle.just_module_recipes.proofs.recipe_order.dependency_token.Given as goal

abbrev pub invariant-loop-at : goal.invariant-loop-at
invariant-loop-at l = (k : ℕ) → k < l.at → get_or l.row k (Near 0) ≢ Near l.place
