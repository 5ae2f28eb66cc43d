use Rattle.std.proofs.Common.{length, ◌-◌}
use Rattle.just_bench_expressions.proofs.Columns.{Passed}
use Rattle.just_bench_expressions.proofs.lexer.lexed_to.Given as goal

abbrev pub invariant-loop-at : goal.invariant-loop-at
invariant-loop-at l = Passed l.text l.line l.start l.end l.at

abbrev pub decreases-loop-at : goal.decreases-loop-at
decreases-loop-at l = length l.bytes - l.at
