use Rattle.just_module_contents.specs.Definitions.{recipes_in}
use Rattle.just_module_recipes.specs.loops.Rows.{AreRecipeRows, around_by}
use Rattle.just_module_recipes.proofs.targets.rows.Given as goal

abbrev pub invariant-loop-place : goal.invariant-loop-place
invariant-loop-place l = AreRecipeRows (recipes_in l.kept) (around_by l.it) l.place l.rows.items
