use Rattle.std.proofs.Common.{take}
use Rattle.just_module_contents.specs.Definitions.{recipes_in}
use Rattle.just_module_contents.specs.Recipes.{recipe_at}
use Rattle.just_module_recipes.specs.loops.Rows.{AreTargets, around_by}
use Rattle.just_module_recipes.proofs.targets.row.Given as goal

abbrev pub invariant-loop-at : goal.invariant-loop-at
invariant-loop-at l = AreTargets (recipes_in l.kept) (around_by l.it) (take l.at (recipe_at (recipes_in l.kept) l.place).dependencies) l.row
