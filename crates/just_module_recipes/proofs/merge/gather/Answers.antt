use Rattle.std.proofs.Common.{◌<◌, ◌∷◌, [], take, length, sym, subst}
use Rattle.just_module_recipes.specs.loops.Rows.{SameMembers, gathered_paths}
use Rattle.just_module_recipes.proofs.SameSets.{one_more}
use Rattle.just_module_recipes.proofs.Nearby.{gathered_next, near_one}
use Rattle.just_module_recipes.proofs.merge.gather.Goals as goal

pub add_target-requires : goal.add_target-requires
add_target-requires c = near_one (λ j. j < length c.args.sets.now) c.args.targets.now c.target-item.result (c.loop-target.target-index, c.loop-target-test.true, sym c.target-item.is) c.requires

pub loop-target-preserved : goal.loop-target-preserved
loop-target-preserved c =
    subst (λ xs. SameMembers c.add_target.new.all.keys xs) (sym (gathered_next c.args.sets.now c.args.targets.now c.loop-target.target-index c.target-item.result c.loop-target-test.true c.target-item.is))
    (one_more c.loop-target.all.keys [] (gathered_paths c.args.sets.now (take c.loop-target.target-index c.args.targets.now)) c.add_target.new.all.keys (gathered_paths c.args.sets.now (c.target-item.result ∷ [])) c.loop-target.invariant c.in_ok-add_target.ensures)
