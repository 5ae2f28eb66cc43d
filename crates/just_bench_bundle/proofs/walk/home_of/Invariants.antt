use Rattle.std.proofs.Common.{◌-◌, []}
use Rattle.just_bench_bundle.specs.loops.Walk.{count_in}
use Rattle.just_bench_syntax.specs.Answers.{answers}
use Rattle.just_loader.specs.Reached.{world_of}
use Rattle.just_bench_bundle.proofs.Walking.{WalkedSoFar}
use Rattle.just_bench_bundle.proofs.walk.home_of.Given as goal

abbrev pub invariant-files : goal.invariant-files
invariant-files l = WalkedSoFar (world_of l.sources l.config (answers []) l.root) l.walk l.place

abbrev pub decreases-files : goal.decreases-files
decreases-files l = count_in l.walk - l.place
