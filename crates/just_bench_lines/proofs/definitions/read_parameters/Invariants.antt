use Rattle.std.proofs.Common.{length, ◌-◌}
use Rattle.just_bench_lines.proofs.Listed.{Listed}
use Rattle.just_bench_lines.proofs.definitions.read_parameters.Given as goal

abbrev pub invariant-loop-name : goal.invariant-loop-name
invariant-loop-name l = Listed l.lexemes l.start l.made l.at

abbrev pub decreases-loop-name : goal.decreases-loop-name
decreases-loop-name l = length l.lexemes - l.at
