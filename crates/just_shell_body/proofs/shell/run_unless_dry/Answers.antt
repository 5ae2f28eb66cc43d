use Rattle.std.proofs.Common.{Option, refl}
use Rattle.just_run_layers.specs.Host.{Answer}
use Rattle.just_run_layers.specs.Interactions.{Question, Interaction, both}
use Rattle.just_run_layers.proofs.InteractionLemmas.{keeps-self, keeps-both, took-then}
use Rattle.just_run_layers.specs.declared.environment.EnvironmentChange.{EnvironmentChange}
use Rattle.std.proofs.Common.{List}
use Rattle.just_recipe_body.specs.Body.{BodyContents, body_contents_of, environment_steps}
use Rattle.just_shell_body.specs.ShellBody.{shell_call, shell_call_steps}
use Rattle.just_recipe_body.specs.declared.body.Preparation.{Preparation}
use Rattle.just_recipe_body.specs.declared.judgement.Next.{Next}
use Rattle.just_shell_body.specs.declared.lines.GroupCommand.{GroupCommand}
use Rattle.just_shell_body.proofs.ShellLemmas.{of-run}
use Rattle.just_recipe_body.proofs.StepEnds.{took-exit, took-gone}
use Rattle.just_shell_body.proofs.shell.run_unless_dry.Goals as goal

abbrev next : BodyContents → Preparation → GroupCommand → List EnvironmentChange → Interaction Next
next b prep command changes = shell_call_steps b command (shell_call b prep.working_directory command.text changes)

pub returns-in_err-changes-clause-took : goal.returns-in_err-changes-clause-took
returns-in_err-changes-clause-took g c =
    let h = g.H.Host.promised c.args.host.now in
    let p : Question → Option Answer = both (g.E.Evaluation.promised c.args.evaluation.now) h in
    let b : BodyContents = body_contents_of (g.S.Syntax.answers c.args.body.now.syntax.now) c.args.body.now in
    let prep : Preparation = c.args.preparation.now in
    let command : GroupCommand = c.args.command.now in
    let r = c.from_residual.result in
    of-run p b prep command _ _ r c.if-body.false
    (took-exit p (environment_steps b) (next b prep command) _ _ c.in_err-changes.field-0.0 r c.from_residual.ensures.1 (c.in_err-changes.ensures.took h (g.H.Host.entries c.args.host.now)))

pub returns-in_err-call-clause-took : goal.returns-in_err-call-clause-took
returns-in_err-call-clause-took g c =
    let h = g.H.Host.promised c.args.host.now in
    let p : Question → Option Answer = both (g.E.Evaluation.promised c.args.evaluation.now) h in
    let q : Question → Option Answer = both (g.E.Evaluation.promised c.ask_changes.new.evaluation) h in
    let b : BodyContents = body_contents_of (g.S.Syntax.answers c.args.body.now.syntax.now) c.args.body.now in
    let prep : Preparation = c.args.preparation.now in
    let command : GroupCommand = c.args.command.now in
    let r = c.from_residual-in_err-call.result in
    of-run p b prep command _ _ r c.if-body.false
    (took-then p q (keeps-both _ _ h h c.in_ok-changes.ensures.keeps (keeps-self h)) (environment_steps b) (next b prep command) _ _ _ c.in_ok-changes.changes r (c.in_ok-changes.ensures.took h (g.H.Host.entries c.args.host.now))
    (took-gone q (next b prep command c.in_ok-changes.changes) _ _ r c.from_residual-in_err-call.ensures.1 refl))

pub returns-clause-took : goal.returns-clause-took
returns-clause-took g c =
    let h = g.H.Host.promised c.args.host.now in
    let p : Question → Option Answer = both (g.E.Evaluation.promised c.args.evaluation.now) h in
    let e1 = g.E.Evaluation.promised c.ask_changes.new.evaluation in
    let q : Question → Option Answer = both e1 h in
    let b : BodyContents = body_contents_of (g.S.Syntax.answers c.args.body.now.syntax.now) c.args.body.now in
    let prep : Preparation = c.args.preparation.now in
    let command : GroupCommand = c.args.command.now in
    let r = c.call_shell.result in
    of-run p b prep command _ _ r c.if-body.false
    (took-then p q (keeps-both _ _ h h c.in_ok-changes.ensures.keeps (keeps-self h)) (environment_steps b) (next b prep command) _ _ _ c.in_ok-changes.changes r (c.in_ok-changes.ensures.took h (g.H.Host.entries c.args.host.now))
    (rw c.in_ok-call.ensures at (c.call_shell.ensures.took e1 (g.E.Evaluation.requests c.ask_changes.new.evaluation))))
