use Rattle.std.proofs.Common.{map, ◌++◌}
use Rattle.std.specs.Borrow.{Bor}
use Rattle.just_module_recipes.specs.loops.Rows.{SameMembers}
use Rattle.just_paths.specs.declared.modulepath.Modulepath.{Modulepath}
use Rattle.just_module_recipes.proofs.merge.add.Given as goal

abbrev pub invariant-loop-path : goal.invariant-loop-path
invariant-loop-path l = SameMembers l.all.keys (l.initial.all.keys ++ map (λ (p : Bor Modulepath). p.now) l.yielded)
