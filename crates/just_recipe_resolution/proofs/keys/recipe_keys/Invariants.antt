use Rattle.std.proofs.Common.{◌≡◌, take}
use Rattle.just_module_contents.specs.Definitions.{recipes_in}
use Rattle.just_compiled.specs.Analysis.{recipe_table}
use Rattle.just_recipe_resolution.proofs.keys.recipe_keys.Given as goal

abbrev pub invariant-loop-place : goal.invariant-loop-place
invariant-loop-place l = l.keys ≡ recipe_table (take l.place (recipes_in l.definitions))
