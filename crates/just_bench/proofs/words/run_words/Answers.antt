use Rattle.std.proofs.Common.{◌≡◌, List, [], Some, Err, false, inl, inr, map, refl, rules, subst, sym}
use Rattle.just_errors.specs.declared.error.Error.TheVariants.{Memory}
use Rattle.just_errors.specs.declared.halt.Halt.TheVariants as halt
use Rattle.just_justfile.specs.Running.{CanRun}
use Rattle.just_names.specs.Texts.{texts}
use Rattle.just_run_layers.specs.Evaluation.{ScopeRequest}
use Rattle.just_run_layers.specs.Interactions.{log_of}
use Rattle.just_invoke.specs.Command.{IsProgramRun, shut}
use Rattle.just_invoke.specs.Evaluation.{IsEvaluation, Writer, writer_of}
use Rattle.just_bench_evaluation.specs.Lines.{displayed}
use Rattle.just_invoke.specs.Outcome.{IsOutcome, memory, refused}
use Rattle.just_run_layers.proofs.InteractionLemmas.{took-out}
use Rattle.just_bench_evaluation.specs.Answered.{plain_answer, request_of}
use Rattle.just_ast_expressions.specs.declared.keyword.Keyword.{Keyword}
use Rattle.just_scopes.specs.Opening.{handed_of, setup_of}
use Rattle.just_bench_syntax.specs.Answers.{answers}
use Rattle.just_bench.specs.Ran.{plain_counts}
use Rattle.just_bench.specs.Recorder.{script_promises}
use Rattle.just_bench.proofs.words.run_words.Goals as goal

pub run-requires-clause-can_run : goal.run-requires-clause-can_run
run-requires-clause-can_run c =
    let can : List (Keyword × Keyword) → Type 0 = λ pairs. CanRun (answers pairs) c.args.root.now c.args.recipes.now in
    subst can (sym c.new-syntax.ensures) c.requires.can_run

pub returns-in_err-writer-clause-outcome : goal.returns-in_err-writer-clause-outcome
returns-in_err-writer-clause-outcome c = λ runs. ([], refused Memory (search rules) memory refl)

pub returns-in_err-writer-clause-commanded : goal.returns-in_err-writer-clause-commanded
returns-in_err-writer-clause-commanded c = λ program asks.
    let out : c.from_residual.result ≡ Err Memory = search rules in
    ([], shut halt.Memory out (λ sets needs ps pre. took-out _ _ _ _ refl) refl)

pub returns-in_err-writer-clause-evaluated : goal.returns-in_err-writer-clause-evaluated
returns-in_err-writer-clause-evaluated c = λ format path asks.
    let out : c.from_residual.result ≡ Err Memory = search rules in inl (out, refl)

pub returns-clause-outcome : goal.returns-clause-outcome
returns-clause-outcome c = λ runs.
    let asked = map request_of c.run.new.evaluation.asked.items in
    let ran : List (Keyword × Keyword) → List ScopeRequest → Type 0 = λ pairs requests.
    IsOutcome plain_counts c.args.root.now c.args.recipes.now (texts c.args.words.now) c.args.config.now (setup_of (answers pairs) c.args.config.now c.args.overrides.now) (λ inquiry. Some (plain_answer inquiry)) (script_promises c.args.host.now.script) (log_of c.args.host.now.entries requests) (log_of c.run.new.host.entries asked) c.run.result in
    (asked, subst (ran []) c.new-evaluation.ensures (subst (λ pairs. ran pairs (map request_of c.new-evaluation.result.asked.items)) c.new-syntax.ensures (c.run.ensures.outcome runs)))

pub returns-clause-commanded : goal.returns-clause-commanded
returns-clause-commanded c = λ program asks.
    let asked = map request_of c.run.new.evaluation.asked.items in
    let ran : List ScopeRequest → Type 0 = λ requests.
    IsProgramRun c.args.root.now (handed_of c.args.config.now c.args.overrides.now) (λ inquiry. Some (plain_answer inquiry)) (script_promises c.args.host.now.script) program (log_of c.args.host.now.entries requests) (log_of c.run.new.host.entries asked) c.run.result in
    (asked, subst ran c.new-evaluation.ensures (c.run.ensures.commanded program asks))

pub returns-clause-evaluated : goal.returns-clause-evaluated
returns-clause-evaluated c = λ format path asks.
    let asked = map request_of c.run.new.evaluation.asked.items in
    let after = writer_of c.run.new.writer.written c.run.new.writer.failed in
    let ran : List ScopeRequest → Writer → Type 0 = λ requests before.
    IsEvaluation displayed c.args.root.now (handed_of c.args.config.now c.args.overrides.now) (λ inquiry. Some (plain_answer inquiry)) (script_promises c.args.host.now.script) format path (log_of c.args.host.now.entries requests) (log_of c.run.new.host.entries asked) before after c.run.result in
    let empty : writer_of c.in_ok-writer.writer.written c.in_ok-writer.writer.failed ≡ writer_of [] false = search rules in
    inr (asked, after, subst (λ requests. ran requests (writer_of [] false)) c.new-evaluation.ensures (subst (ran (map request_of c.new-evaluation.result.asked.items)) empty (c.run.ensures.evaluated format path asks)))
