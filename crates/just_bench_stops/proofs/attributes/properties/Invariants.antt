use Rattle.std.proofs.Common.{length, ◌-◌}
use Rattle.just_bench_stops.proofs.Properties.{Said}
use Rattle.just_bench_stops.proofs.attributes.properties.Given as goal

abbrev pub invariant-loop-at : goal.invariant-loop-at
invariant-loop-at l = Said l.spelling l.start l.at l.seen

abbrev pub decreases-loop-at : goal.decreases-loop-at
decreases-loop-at l = length l.spelling - l.at
