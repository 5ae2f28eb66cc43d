use Rattle.just_run_layers.specs.Evaluation.{context_contents_of}
use Rattle.just_run_layers.specs.Host.{given}
use Rattle.just_bench_evaluation.specs.Answered.{run_text}
use Rattle.just_bench_evaluation.proofs.Gives.{gives_answer}
use Rattle.just_bench_evaluation.proofs.plain_evaluation.PlainEvaluationEvaluation.string.Goals as goal

pub returns-clause-answers : goal.returns-clause-answers
returns-clause-answers c =
    gives_answer given (run_text (context_contents_of c.args.context.now) c.args.is_dependency c.args.scope.now c.args.expression.now) c.run_text.result c.run_text.ensures
