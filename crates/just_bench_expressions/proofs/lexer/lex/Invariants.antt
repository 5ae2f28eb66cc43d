use Rattle.std.proofs.Common.{length, ◌-◌}
use Rattle.just_bench_expressions.proofs.Lexing.{Lexed}
use Rattle.just_bench_expressions.proofs.lexer.lex.Given as goal

abbrev pub invariant-loop-at : goal.invariant-loop-at
invariant-loop-at l = Lexed l.path l.text l.line l.start l.end l.found l.at

abbrev pub decreases-loop-at : goal.decreases-loop-at
decreases-loop-at l = length l.bytes - l.at
