use Rattle.std.proofs.Common.{◌≡◌, length}
use Rattle.just_module_recipes.specs.loops.Rows.{AreTold}
use Rattle.just_module_recipes.proofs.merge.merge.Given as goal

abbrev pub invariant-loop-n : goal.invariant-loop-n
invariant-loop-n l = (length l.sets.items ≡ length l.rows) × AreTold l.rows l.order l.n l.sets.items
