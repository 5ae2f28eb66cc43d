use Rattle.just_bench_expressions.proofs.Cuts.{joined}
use Rattle.just_bench_lines.proofs.laws.lines_joined.Goals as goal

pub returns : goal.returns
returns c = joined c.args.text.now
