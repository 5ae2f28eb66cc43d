use Rattle.just_bench_expressions.proofs.Lexing.{boundary_after}
use Rattle.just_bench_expressions.proofs.lexer.token.Goals as goal

pub new-requires-3-clause-ends : goal.new-requires-3-clause-ends
new-requires-3-clause-ends c =
    rw c.new-2.ensures (boundary_after c.args.text.now c.args.line.now c.args.at c.args.size c.utf8.text c.requires.line c.requires.some c.requires.within c.requires.last)
