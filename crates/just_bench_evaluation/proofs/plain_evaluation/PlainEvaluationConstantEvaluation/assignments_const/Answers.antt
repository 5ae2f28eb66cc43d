use Rattle.just_bench_evaluation.proofs.plain_evaluation.PlainEvaluationConstantEvaluation.assignments_const.Goals as goal

pub returns-clause-constants : goal.returns-clause-constants
returns-clause-constants c = c.constants_of.ensures.constants c.args.lists

pub returns-clause-binds : goal.returns-clause-binds
returns-clause-binds c = c.constants_of.ensures.binds c.args.lists

pub returns-clause-refused : goal.returns-clause-refused
returns-clause-refused c = c.constants_of.ensures.refused c.args.lists
