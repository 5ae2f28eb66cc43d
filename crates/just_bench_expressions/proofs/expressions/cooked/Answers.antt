use Rattle.std.proofs.Common.{sym, subst}
use Rattle.just_bench_expressions.specs.Lexemes.{IsQuoted}
use Rattle.just_bench_expressions.proofs.Quoting.{quote_starts, quote_ends}
use Rattle.just_bench_expressions.proofs.expressions.cooked.Goals as goal

pub range-requires-clause-start_boundary : goal.range-requires-clause-start_boundary
range-requires-clause-start_boundary c = λ _. quote_starts c.lexeme-text.result.now c.lexeme-text.utf8 (subst IsQuoted (sym c.lexeme-text.ensures) c.requires)

pub range-requires-clause-end_boundary : goal.range-requires-clause-end_boundary
range-requires-clause-end_boundary c = quote_ends c.lexeme-text.result.now (subst IsQuoted (sym c.lexeme-text.ensures) c.requires)
