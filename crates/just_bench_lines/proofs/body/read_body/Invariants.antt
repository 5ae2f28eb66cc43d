use Rattle.std.proofs.Common.{◌≤◌, length, ◌+◌, ◌-◌}
use Rattle.std.specs.Str.{IsCharBoundary}
use Rattle.just_bench_lines.proofs.Joined.{Joined}
use Rattle.just_bench_lines.proofs.body.read_body.Given as goal

abbrev pub invariant-loop-at : goal.invariant-loop-at
invariant-loop-at l = record {
  read : Joined l.path l.text l.line l.start l.fragments l.lists l.at;
  within : l.at ≤ length l.line.text;
  boundary : IsCharBoundary l.text (l.line.offset + l.at);
}

abbrev pub decreases-loop-at : goal.decreases-loop-at
decreases-loop-at l = length l.line.text - l.at
