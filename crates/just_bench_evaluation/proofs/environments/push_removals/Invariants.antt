use Rattle.std.proofs.Common.{◌≡◌, ◌++◌, map, take}
use Rattle.just_bench_evaluation.specs.Environments.{removal}
use Rattle.just_bench_evaluation.proofs.environments.push_removals.Given as goal

abbrev pub invariant-loop-name : goal.invariant-loop-name
invariant-loop-name l = l.changes ≡ l.initial.changes ++ map removal (take l.name-index l.names)
