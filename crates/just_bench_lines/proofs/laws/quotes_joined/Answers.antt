use Rattle.just_bench_expressions.proofs.Quoting.{quotes_stand_round}
use Rattle.just_bench_lines.proofs.laws.quotes_joined.Goals as goal

pub returns : goal.returns
returns c = quotes_stand_round c.args.text.now c.requires
