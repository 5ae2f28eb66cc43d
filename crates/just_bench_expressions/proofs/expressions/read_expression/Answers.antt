use Rattle.std.proofs.Common.{true}
use Rattle.just_bench_expressions.proofs.Reading.{found_is_after, found_is_within}
use Rattle.just_bench_expressions.proofs.expressions.read_expression.Goals as goal

pub returns-clause-within : goal.returns-clause-within
returns-clause-within c = found_is_within true c.args.spelling.now c.args.start c.read.result c.read.ensures

pub returns-clause-after : goal.returns-clause-after
returns-clause-after c = found_is_after true c.args.spelling.now c.args.start c.read.result c.read.ensures
