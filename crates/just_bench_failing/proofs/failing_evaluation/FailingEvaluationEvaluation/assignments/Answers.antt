use Rattle.std.proofs.Common.{ap}
use Rattle.just_run_layers.specs.Host.{answered, answer_of_scope}
use Rattle.just_bench_failing.proofs.Promises.{answers-until, keeps-until}
use Rattle.just_bench_failing.proofs.failing_evaluation.FailingEvaluationEvaluation.assignments.Goals as goal

pub returns-clause-answers : goal.returns-clause-answers
returns-clause-answers g c =
    answers-until c.args.self.now.failure.fault (g.E.Evaluation.promised c.args.self.now.evaluation) _ _ _ (λ over. ap (answered answer_of_scope) (c.instead.ensures.kept over)) c.assignments-answer.ensures.answers

pub returns-clause-keeps : goal.returns-clause-keeps
returns-clause-keeps g c = keeps-until c.args.self.now.failure.fault (g.E.Evaluation.promised c.args.self.now.evaluation) _ _ c.instead.ensures.counted.spent c.assignments-answer.ensures.keeps
