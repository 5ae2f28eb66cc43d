use Rattle.std.proofs.Common.{string_bytes}
use Rattle.just_bench_expressions.proofs.Spelled.{Spelled}
use Rattle.just_bench_expressions.proofs.spelling.Spelling.new.Given as goal

abbrev pub invariant-loop-lexeme : goal.invariant-loop-lexeme
invariant-loop-lexeme l = Spelled l.lexeme-items l.lexeme-index (string_bytes l.text) l.ends l.before
