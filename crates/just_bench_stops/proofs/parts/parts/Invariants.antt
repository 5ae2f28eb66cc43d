use Rattle.std.proofs.Common.{length, false, ◌-◌}
use Rattle.just_bench_lines.specs.Places.{is_mark}
use Rattle.just_bench_stops.specs.Parts.{part_end}
use Rattle.just_bench_stops.proofs.Walks.{Walked}
use Rattle.just_bench_stops.proofs.parts.parts.Given as goal

abbrev pub invariant-loop-at : goal.invariant-loop-at
invariant-loop-at l = Walked false (is_mark l.stop) (part_end l.part) l.spelling l.start l.at

abbrev pub decreases-loop-at : goal.decreases-loop-at
decreases-loop-at l = length l.spelling - l.at
