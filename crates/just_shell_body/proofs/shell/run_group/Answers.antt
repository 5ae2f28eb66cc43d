use Rattle.std.proofs.Common.{Option, None, Some, Ok}
use Rattle.just_run_layers.specs.Host.{Answer}
use Rattle.just_run_layers.specs.Interactions.{Question, both}
use Rattle.just_run_layers.proofs.InteractionLemmas.{keeps-then, keeps-self, keeps-both, took-then, took-give}
use Rattle.just_recipe_body.specs.Body.{BodyContents, body_contents_of}
use Rattle.just_shell_body.specs.Lines.{group_command_steps}
use Rattle.just_shell_body.specs.ShellBody.{command_steps}
use Rattle.just_recipe_body.specs.declared.judgement.Next.TheVariants.{Onward}
use Rattle.just_recipe_body.proofs.StepEnds.{took-exit}
use Rattle.just_shell_body.proofs.shell.run_group.Goals as goal

pub returns-in-Some-clause-keeps : goal.returns-in-Some-clause-keeps
returns-in-Some-clause-keeps g c = keeps-then _ _ _ c.in_ok-command.ensures.keeps c.run_command.ensures.keeps

pub returns-in_err-command-clause-took : goal.returns-in_err-command-clause-took
returns-in_err-command-clause-took g c =
    let h = g.H.Host.promised c.args.host.now in
    let p : Question → Option Answer = both (g.E.Evaluation.promised c.args.evaluation.now) h in
    let b : BodyContents = body_contents_of (g.S.Syntax.answers c.args.body.now.syntax.now) c.args.body.now in
    let r = c.from_residual.result in
    took-exit p (group_command_steps b c.args.lines.now) (command_steps b c.args.preparation.now) _ _ c.in_err-command.field-0.0 r c.from_residual.ensures.1 (c.in_err-command.ensures.took h (g.H.Host.entries c.args.host.now))

pub returns-in-Some-clause-took : goal.returns-in-Some-clause-took
returns-in-Some-clause-took g c =
    let h = g.H.Host.promised c.args.host.now in
    let p : Question → Option Answer = both (g.E.Evaluation.promised c.args.evaluation.now) h in
    let q : Question → Option Answer = both (g.E.Evaluation.promised c.ask_command.new.evaluation) h in
    let b : BodyContents = body_contents_of (g.S.Syntax.answers c.args.body.now.syntax.now) c.args.body.now in
    let r = c.run_command.result in
    took-then p q (keeps-both _ _ h h c.in_ok-command.ensures.keeps (keeps-self h)) (group_command_steps b c.args.lines.now) (command_steps b c.args.preparation.now) _ _ _ (Some c.in-Some.command) r
    (rw c.in-Some.is at (c.in_ok-command.ensures.took h (g.H.Host.entries c.args.host.now)))
    c.run_command.ensures.took

pub returns-in-None-clause-took : goal.returns-in-None-clause-took
returns-in-None-clause-took g c =
    let h = g.H.Host.promised c.args.host.now in
    let p : Question → Option Answer = both (g.E.Evaluation.promised c.args.evaluation.now) h in
    let q : Question → Option Answer = both (g.E.Evaluation.promised c.ask_command.new.evaluation) h in
    let b : BodyContents = body_contents_of (g.S.Syntax.answers c.args.body.now.syntax.now) c.args.body.now in
    took-then p q (keeps-both _ _ h h c.in_ok-command.ensures.keeps (keeps-self h)) (group_command_steps b c.args.lines.now) (command_steps b c.args.preparation.now) _ _ _ None (Ok Onward)
    (rw c.in-None.is at (c.in_ok-command.ensures.took h (g.H.Host.entries c.args.host.now)))
    (took-give q _ Onward)
