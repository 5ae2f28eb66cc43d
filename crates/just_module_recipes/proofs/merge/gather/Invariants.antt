use Rattle.std.proofs.Common.{take}
use Rattle.just_module_recipes.specs.loops.Rows.{SameMembers, gathered_paths}
use Rattle.just_module_recipes.proofs.merge.gather.Given as goal

abbrev pub invariant-loop-target : goal.invariant-loop-target
invariant-loop-target l = SameMembers l.all.keys (gathered_paths l.sets (take l.target-index l.targets))
