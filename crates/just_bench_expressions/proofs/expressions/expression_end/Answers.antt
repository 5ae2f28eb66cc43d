use Rattle.just_bench_expressions.proofs.Ending.{end_agrees, end_is_after, end_is_within}
use Rattle.just_bench_expressions.proofs.expressions.expression_end.Goals as goal

pub returns-clause-agrees : goal.returns-clause-agrees
returns-clause-agrees c = end_agrees c.args.sums c.args.spelling.now c.args.start c.end_of.result c.end_of.ensures

pub returns-clause-within : goal.returns-clause-within
returns-clause-within c = end_is_within c.args.sums c.args.spelling.now c.args.start c.end_of.result c.end_of.ensures

pub returns-clause-after : goal.returns-clause-after
returns-clause-after c = end_is_after c.args.sums c.args.spelling.now c.args.start c.end_of.result c.end_of.ensures
