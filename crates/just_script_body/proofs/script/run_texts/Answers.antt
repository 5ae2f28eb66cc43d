use Rattle.std.proofs.Common.{List, Option, Ok, Err}
use Rattle.just_names.specs.Texts.{Text}
use Rattle.just_run_layers.specs.Host.{Answer}
use Rattle.just_run_layers.specs.Interactions.{Question, both}
use Rattle.just_run_layers.specs.declared.calls.Executor.{Executor}
use Rattle.just_run_layers.proofs.InteractionLemmas.{keeps-then, keeps-self, keeps-both, took-then}
use Rattle.just_recipe_body.specs.Body.{BodyContents, body_contents_of, directory_steps, concluded}
use Rattle.just_recipe_body.proofs.StepEnds.{took-exit}
use Rattle.just_script_body.specs.Executors.{executor_of}
use Rattle.just_script_body.specs.ScriptBody.{call_script_steps, executed_steps, is_grandiloquent, show_if_steps, shown_call_steps}
use Rattle.just_script_body.proofs.ScriptLemmas.{took-result}
use Rattle.just_script_body.proofs.script.run_texts.Goals as goal

pub returns-clause-keeps : goal.returns-clause-keeps
returns-clause-keeps g c = keeps-then _ _ _ c.in_ok-working_directory.ensures.keeps c.run_call.ensures.keeps

pub returns-clause-keeps_host : goal.returns-clause-keeps_host
returns-clause-keeps_host g c = keeps-then _ _ _ c.in_ok-show_if.ensures.keeps c.run_call.ensures.keeps_host

pub returns-in_err-executor-clause-took : goal.returns-in_err-executor-clause-took
returns-in_err-executor-clause-took g c =
    let p : Question → Option Answer = both (g.E.Evaluation.promised c.args.evaluation.now) (g.H.Host.promised c.args.host.now) in
    let b : BodyContents = body_contents_of (g.S.Syntax.answers c.args.body.now.syntax.now) c.args.body.now in
    let texts : List Text = c.args.texts in
    let r = c.from_residual.result in
    took-exit p (concluded (executor_of b texts)) (executed_steps b texts) _ _ c.in_err-executor.field-0.0 r c.from_residual.ensures.1
    (took-result p _ (executor_of b texts) (Err c.in_err-executor.field-0.0) c.in_err-executor.ensures)

pub returns-in_err-working_directory-clause-took : goal.returns-in_err-working_directory-clause-took
returns-in_err-working_directory-clause-took g c =
    let h = g.H.Host.promised c.args.host.now in
    let p : Question → Option Answer = both (g.E.Evaluation.promised c.args.evaluation.now) h in
    let b : BodyContents = body_contents_of (g.S.Syntax.answers c.args.body.now.syntax.now) c.args.body.now in
    let texts : List Text = c.args.texts in
    let executor : Executor = c.in_ok-executor.executor in
    let r = c.from_residual-in_err-working_directory.result in
    took-then p p (keeps-self p) (concluded (executor_of b texts)) (executed_steps b texts) _ _ _ executor r (took-result p _ (executor_of b texts) (Ok executor) c.in_ok-executor.ensures)
    (took-exit p (directory_steps b) (shown_call_steps b executor texts) _ _ c.in_err-working_directory.field-0.0 r c.from_residual-in_err-working_directory.ensures.1 (c.in_err-working_directory.ensures.took h (g.H.Host.entries c.args.host.now)))

pub returns-in_err-show_if-clause-took : goal.returns-in_err-show_if-clause-took
returns-in_err-show_if-clause-took g c =
    let e = g.E.Evaluation.promised c.ask_directory.new.evaluation in
    let h = g.H.Host.promised c.args.host.now in
    let p : Question → Option Answer = both (g.E.Evaluation.promised c.args.evaluation.now) h in
    let q : Question → Option Answer = both e h in
    let b : BodyContents = body_contents_of (g.S.Syntax.answers c.args.body.now.syntax.now) c.args.body.now in
    let texts : List Text = c.args.texts in
    let executor : Executor = c.in_ok-executor.executor in
    let directory : Option Text = c.in_ok-working_directory.working_directory in
    let r = c.from_residual-in_err-show_if.result in
    took-then p p (keeps-self p) (concluded (executor_of b texts)) (executed_steps b texts) _ _ _ executor r (took-result p _ (executor_of b texts) (Ok executor) c.in_ok-executor.ensures)
    (took-then p q (keeps-both _ _ h h c.in_ok-working_directory.ensures.keeps (keeps-self h)) (directory_steps b) (shown_call_steps b executor texts) _ _ _ directory r (c.in_ok-working_directory.ensures.took h (g.H.Host.entries c.args.host.now))
    (took-exit q (show_if_steps (is_grandiloquent b.context.config.verbosity) texts) (λ _. call_script_steps b executor texts directory) _ _ c.in_err-show_if.field-0.0 r c.from_residual-in_err-show_if.ensures.1
    (rw c.is_grandiloquent.ensures at (c.in_err-show_if.ensures.took e (g.E.Evaluation.requests c.ask_directory.new.evaluation)))))

pub returns-clause-took : goal.returns-clause-took
returns-clause-took g c =
    let e = g.E.Evaluation.promised c.ask_directory.new.evaluation in
    let h = g.H.Host.promised c.args.host.now in
    let p : Question → Option Answer = both (g.E.Evaluation.promised c.args.evaluation.now) h in
    let q : Question → Option Answer = both e h in
    let o : Question → Option Answer = both e (g.H.Host.promised c.show_if.new.host) in
    let b : BodyContents = body_contents_of (g.S.Syntax.answers c.args.body.now.syntax.now) c.args.body.now in
    let texts : List Text = c.args.texts in
    let executor : Executor = c.in_ok-executor.executor in
    let directory : Option Text = c.in_ok-working_directory.working_directory in
    let r = c.run_call.result in
    took-then p p (keeps-self p) (concluded (executor_of b texts)) (executed_steps b texts) _ _ _ executor r (took-result p _ (executor_of b texts) (Ok executor) c.in_ok-executor.ensures)
    (took-then p q (keeps-both _ _ h h c.in_ok-working_directory.ensures.keeps (keeps-self h)) (directory_steps b) (shown_call_steps b executor texts) _ _ _ directory r (c.in_ok-working_directory.ensures.took h (g.H.Host.entries c.args.host.now))
    (took-then q o (keeps-both e e _ _ (keeps-self e) c.in_ok-show_if.ensures.keeps) (show_if_steps (is_grandiloquent b.context.config.verbosity) texts) (λ _. call_script_steps b executor texts directory) _ _ _ tt r
    (rw c.is_grandiloquent.ensures at (c.in_ok-show_if.ensures.took e (g.E.Evaluation.requests c.ask_directory.new.evaluation)))
    c.run_call.ensures.took))
