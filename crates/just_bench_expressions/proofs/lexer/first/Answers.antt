use Rattle.std.proofs.Common.{arith, sym}
use Rattle.std.proofs.lemmas.Grind.{common_steps}
use Rattle.just_bench_expressions.proofs.Lexing.{takes_name_of, takes_quoted}
use Rattle.just_bench_expressions.proofs.lexer.first.Goals as goal

pub returns-then-starts_identifier-clause-takes : goal.returns-then-starts_identifier-clause-takes
returns-then-starts_identifier-clause-takes c =
    takes_name_of c.args.bytes.now c.in_ok-byte.byte.now c.in_ok-byte.rest.now c.name_rest-more.result (grind (arith, common_steps)) (sym c.if-starts_identifier.ensures) c.name_rest-more.ensures.is

pub returns-then-byte-eq39-clause-takes : goal.returns-then-byte-eq39-clause-takes
returns-then-byte-eq39-clause-takes c =
    takes_quoted c.args.bytes.now c.in_ok-byte.byte.now c.in_ok-byte.rest.now c.in_ok-inside.inside (grind (arith, common_steps)) (grind (arith, common_steps)) c.in_ok-inside.ensures.is
