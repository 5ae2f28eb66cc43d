use Rattle.std.proofs.Common.{length, false, ◌-◌}
use Rattle.just_bench_lines.specs.Heading.{parameter}
use Rattle.just_bench_lines.specs.Places.{is_colon}
use Rattle.just_bench_lines.proofs.Parts.{Parts}
use Rattle.just_bench_lines.proofs.heading.read_parameters.Given as goal

abbrev pub invariant-loop-at : goal.invariant-loop-at
invariant-loop-at l = Parts false is_colon parameter l.spelling l.start l.made l.at

abbrev pub decreases-loop-at : goal.decreases-loop-at
decreases-loop-at l = length l.spelling - l.at
