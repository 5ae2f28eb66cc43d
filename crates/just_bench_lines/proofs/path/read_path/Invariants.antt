use Rattle.std.proofs.Common.{length, ◌-◌}
use Rattle.just_bench_lines.specs.Places.{GoesOn}
use Rattle.just_bench_lines.proofs.Paths.{Pathed}
use Rattle.just_bench_lines.proofs.path.read_path.Given as goal

abbrev pub invariant-loop-name : goal.invariant-loop-name
invariant-loop-name l = record {
  read : Pathed l.spelling l.start l.front l.last l.at;
  further : GoesOn l.spelling l.start l.at;
}

abbrev pub decreases-loop-name : goal.decreases-loop-name
decreases-loop-name l = length l.spelling - l.at
