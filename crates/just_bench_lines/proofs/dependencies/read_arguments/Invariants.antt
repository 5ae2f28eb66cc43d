use Rattle.std.proofs.Common.{length, false, ◌≤◌, ◌-◌}
use Rattle.just_bench_lines.specs.Dependencies.{argument}
use Rattle.just_bench_lines.specs.Places.{is_paren_close}
use Rattle.just_bench_lines.proofs.Parts.{Parts}
use Rattle.just_bench_lines.proofs.dependencies.read_arguments.Given as goal

abbrev pub invariant-loop-at : goal.invariant-loop-at
invariant-loop-at l = record {
  read : Parts false is_paren_close argument l.spelling l.start l.made l.at;
  onward : l.start ≤ l.at;
}

abbrev pub decreases-loop-at : goal.decreases-loop-at
decreases-loop-at l = length l.spelling - l.at
