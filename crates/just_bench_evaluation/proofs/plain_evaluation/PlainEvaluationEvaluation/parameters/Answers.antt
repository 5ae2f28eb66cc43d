use Rattle.just_run_layers.specs.Evaluation.{context_contents_of}
use Rattle.just_run_layers.specs.Host.{bound_to}
use Rattle.just_bench_evaluation.specs.Answered.{run_parameters, run_value}
use Rattle.just_bench_evaluation.proofs.Binding.{answer_binds}
use Rattle.just_bench_evaluation.proofs.Gives.{gives_answer}
use Rattle.just_bench_evaluation.proofs.plain_evaluation.PlainEvaluationEvaluation.parameters.Goals as goal

pub returns-clause-binds : goal.returns-clause-binds
returns-clause-binds c =
    answer_binds (run_value (context_contents_of c.args.context.now) c.args.is_dependency) c.args.scope.now c.args.parameters.now c.args.groups.now c.bind_all.result (rw c.as_slice.ensures at c.bind_all.ensures)

pub returns-clause-answers : goal.returns-clause-answers
returns-clause-answers c =
    gives_answer bound_to (run_parameters (context_contents_of c.args.context.now) c.args.is_dependency c.args.scope.now c.args.groups.now c.args.parameters.now) c.bind_all.result (rw c.as_slice.ensures at c.bind_all.ensures)
