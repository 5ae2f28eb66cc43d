use Rattle.std.proofs.Common.{◌≡◌, ◌++◌, map, reverse}
use Rattle.just_bench_evaluation.specs.Environments.{pair_change}
use Rattle.just_bench_evaluation.proofs.environments.stand.Given as goal

abbrev pub invariant-loop-pair : goal.invariant-loop-pair
invariant-loop-pair l = l.found.items ++ map pair_change l.pair-iterator ≡ map pair_change (reverse l.pairs)
