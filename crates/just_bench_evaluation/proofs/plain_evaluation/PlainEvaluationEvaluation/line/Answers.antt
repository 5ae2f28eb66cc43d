use Rattle.std.proofs.Common.{◌≡◌, false}
use Rattle.just_run_layers.specs.Evaluation.{context_contents_of}
use Rattle.just_run_layers.specs.Host.{given}
use Rattle.just_bench_evaluation.specs.Answered.{run_line, run_value}
use Rattle.just_bench_evaluation.proofs.Gives.{gives_answer}
use Rattle.just_bench_evaluation.proofs.LineEnds.{answer_begins, answer_ends}
use Rattle.just_bench_evaluation.proofs.plain_evaluation.PlainEvaluationEvaluation.line.Goals as goal

pub returns-clause-begins : goal.returns-clause-begins
returns-clause-begins c =
    answer_begins (run_value (context_contents_of c.args.context.now) c.args.is_dependency c.args.scope.now) c.args.line.now.fragments (c.args._continued ≡ false) c.fragments_text.result (rw c.as_slice.ensures at c.fragments_text.ensures)

pub returns-clause-ends : goal.returns-clause-ends
returns-clause-ends c =
    answer_ends (run_value (context_contents_of c.args.context.now) c.args.is_dependency c.args.scope.now) c.args.line.now.fragments c.fragments_text.result (rw c.as_slice.ensures at c.fragments_text.ensures)

pub returns-clause-answers : goal.returns-clause-answers
returns-clause-answers c =
    gives_answer given (run_line (context_contents_of c.args.context.now) c.args.is_dependency c.args.scope.now c.args.line.now) c.fragments_text.result (rw c.as_slice.ensures at c.fragments_text.ensures)
