use Rattle.std.proofs.Common.{length, true, ◌≤◌, ◌-◌}
use Rattle.just_bench_lines.specs.Places.{is_and}
use Rattle.just_bench_stops.specs.Parts.{dependency_end}
use Rattle.just_bench_stops.proofs.Walks.{Walked}
use Rattle.just_bench_stops.proofs.parts.dependencies.Given as goal

abbrev pub invariant-loop-at : goal.invariant-loop-at
invariant-loop-at l = record {
  walked : Walked true is_and dependency_end l.spelling l.start l.at;
  within : l.at ≤ length l.spelling;
}

abbrev pub decreases-loop-at : goal.decreases-loop-at
decreases-loop-at l = length l.spelling - l.at
