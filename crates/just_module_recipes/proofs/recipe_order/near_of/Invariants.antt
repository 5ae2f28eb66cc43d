use Rattle.std.proofs.Common.{◌≡◌, take}
use Rattle.just_module_recipes.specs.loops.Rows.{near}
use Rattle.just_module_recipes.proofs.recipe_order.near_of.Given as goal

abbrev pub invariant-loop-target : goal.invariant-loop-target
invariant-loop-target l = l.row.items ≡ near (take l.target-index l.targets)
