use Rattle.std.proofs.Common.{ℕ, ◌<◌}
use Rattle.just_names.specs.Index.{AreDifferent}
use Rattle.just_module_contents.specs.Recipes.{parameter_names, recipe_at}
use Rattle.just_module_contents.specs.loops.Recipes.{NoneFollows}
use Rattle.just_module_contents.specs.Definitions.{recipes_in}
use Rattle.just_module_headers.proofs.headers.check_parameters.Given as goal

abbrev pub invariant-loop-place : goal.invariant-loop-place
invariant-loop-place l = (k : ℕ) → k < l.place → AreDifferent (parameter_names (recipe_at (recipes_in l.definitions) k)) × NoneFollows (recipe_at (recipes_in l.definitions) k).parameters
