use Rattle.just_run_layers.specs.Evaluation.{context_contents_of}
use Rattle.just_run_layers.specs.Host.{valued}
use Rattle.just_bench_evaluation.specs.Answered.{run_value}
use Rattle.just_bench_evaluation.proofs.Gives.{gives_answer}
use Rattle.just_bench_evaluation.proofs.plain_evaluation.PlainEvaluationEvaluation.value.Goals as goal

pub returns-clause-answers : goal.returns-clause-answers
returns-clause-answers c =
    gives_answer valued (run_value (context_contents_of c.args.context.now) c.args.is_dependency c.args.scope.now c.args.expression.now) c.run_value.result c.run_value.ensures
