use Rattle.std.proofs.Common.{◌≤◌, length, ◌+◌, ◌-◌}
use Rattle.std.specs.Str.{IsCharBoundary}
use Rattle.just_bench_stops.proofs.BadParts.{Parted}
use Rattle.just_bench_stops.proofs.body.body_stop.Given as goal

abbrev pub invariant-loop-at : goal.invariant-loop-at
invariant-loop-at l = record {
  read : Parted l.path l.text l.line l.start l.at;
  within : l.at ≤ length l.line.text;
  boundary : IsCharBoundary l.text (l.line.offset + l.at);
}

abbrev pub decreases-loop-at : goal.decreases-loop-at
decreases-loop-at l = length l.line.text - l.at
