use Rattle.just_bench_expressions.proofs.Apart.{lexemes_apart}
use Rattle.just_bench_expressions.proofs.laws.lexemes_joined.Goals as goal

pub returns : goal.returns
returns c = lexemes_apart
