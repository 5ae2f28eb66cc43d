use Rattle.std.proofs.Common.{length, true, ◌≤◌, ◌-◌}
use Rattle.just_bench_lines.specs.Dependencies.{dependency}
use Rattle.just_bench_lines.specs.Places.{is_and}
use Rattle.just_bench_lines.proofs.Parts.{Parts}
use Rattle.just_bench_lines.proofs.dependencies.read_dependency_list.Given as goal

abbrev pub invariant-loop-at : goal.invariant-loop-at
invariant-loop-at l = record {
  read : Parts true is_and dependency l.spelling l.start l.made l.at;
  within : l.at ≤ length l.spelling;
}

abbrev pub decreases-loop-at : goal.decreases-loop-at
decreases-loop-at l = length l.spelling - l.at
