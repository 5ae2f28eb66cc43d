use Rattle.std.proofs.Common.{List, Option, refl}
use Rattle.just_names.specs.Texts.{Text}
use Rattle.just_run_layers.specs.Host.{Answer}
use Rattle.just_run_layers.specs.Interactions.{Question, Interaction, both}
use Rattle.just_run_layers.specs.declared.calls.Executor.{Executor}
use Rattle.just_run_layers.specs.declared.environment.EnvironmentChange.{EnvironmentChange}
use Rattle.just_run_layers.proofs.InteractionLemmas.{keeps-self, keeps-both, took-then}
use Rattle.just_recipe_body.specs.Body.{BodyContents, body_contents_of, environment_steps}
use Rattle.just_recipe_body.proofs.StepEnds.{took-exit, took-gone}
use Rattle.just_script_body.specs.ScriptBody.{script_call, script_call_steps}
use Rattle.just_script_body.proofs.script.run_call.Goals as goal

abbrev next : BodyContents → Executor → List Text → Option Text → List EnvironmentChange → Interaction (Unit {0})
next b executor texts directory changes = script_call_steps b (script_call b executor texts directory changes)

pub returns-in_err-changes-clause-took : goal.returns-in_err-changes-clause-took
returns-in_err-changes-clause-took g c =
    let h = g.H.Host.promised c.args.host.now in
    let p : Question → Option Answer = both (g.E.Evaluation.promised c.args.evaluation.now) h in
    let b : BodyContents = body_contents_of (g.S.Syntax.answers c.args.body.now.syntax.now) c.args.body.now in
    let r = c.from_residual.result in
    took-exit p (environment_steps b) (next b c.args.executor c.args.texts c.args.working_directory) _ _ c.in_err-changes.field-0.0 r c.from_residual.ensures.1 (c.in_err-changes.ensures.took h (g.H.Host.entries c.args.host.now))

pub returns-in_err-call-clause-took : goal.returns-in_err-call-clause-took
returns-in_err-call-clause-took g c =
    let h = g.H.Host.promised c.args.host.now in
    let p : Question → Option Answer = both (g.E.Evaluation.promised c.args.evaluation.now) h in
    let q : Question → Option Answer = both (g.E.Evaluation.promised c.ask_changes.new.evaluation) h in
    let b : BodyContents = body_contents_of (g.S.Syntax.answers c.args.body.now.syntax.now) c.args.body.now in
    let r = c.from_residual-in_err-call.result in
    took-then p q (keeps-both _ _ h h c.in_ok-changes.ensures.keeps (keeps-self h)) (environment_steps b) (next b c.args.executor c.args.texts c.args.working_directory) _ _ _ c.in_ok-changes.changes r (c.in_ok-changes.ensures.took h (g.H.Host.entries c.args.host.now))
    (took-gone q (next b c.args.executor c.args.texts c.args.working_directory c.in_ok-changes.changes) _ _ r c.from_residual-in_err-call.ensures.1 refl)

pub returns-clause-took : goal.returns-clause-took
returns-clause-took g c =
    let h = g.H.Host.promised c.args.host.now in
    let p : Question → Option Answer = both (g.E.Evaluation.promised c.args.evaluation.now) h in
    let e = g.E.Evaluation.promised c.ask_changes.new.evaluation in
    let b : BodyContents = body_contents_of (g.S.Syntax.answers c.args.body.now.syntax.now) c.args.body.now in
    let r = c.call_script.result in
    took-then p (both e h) (keeps-both _ _ h h c.in_ok-changes.ensures.keeps (keeps-self h)) (environment_steps b) (next b c.args.executor c.args.texts c.args.working_directory) _ _ _ c.in_ok-changes.changes r (c.in_ok-changes.ensures.took h (g.H.Host.entries c.args.host.now))
    (rw c.in_ok-call.ensures at (c.call_script.ensures.took e (g.E.Evaluation.requests c.ask_changes.new.evaluation)))
