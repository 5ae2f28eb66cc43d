use Rattle.std.proofs.Common.{Option}
use Rattle.just_run_layers.specs.Host.{Answer}
use Rattle.just_run_layers.specs.Interactions.{Question, both}
use Rattle.just_run_layers.proofs.InteractionLemmas.{keeps-then, keeps-self, keeps-both, took-then}
use Rattle.just_recipe_body.specs.Body.{BodyContents, body_contents_of, time_steps}
use Rattle.just_shell_body.specs.ShellBody.{show_command_steps, timed_steps, unless_dry_steps}
use Rattle.just_recipe_body.specs.declared.body.Preparation.{Preparation}
use Rattle.just_shell_body.specs.declared.lines.GroupCommand.{GroupCommand}
use Rattle.just_recipe_body.proofs.StepEnds.{took-exit}
use Rattle.just_shell_body.proofs.shell.run_command.Goals as goal

pub returns-in_err-show_command-clause-keeps_host : goal.returns-in_err-show_command-clause-keeps_host
returns-in_err-show_command-clause-keeps_host g c = keeps-then _ _ _ c.in_ok-time.ensures.keeps c.in_err-show_command.ensures.keeps

pub returns-clause-keeps_host : goal.returns-clause-keeps_host
returns-clause-keeps_host g c = keeps-then _ _ _ c.in_ok-time.ensures.keeps (keeps-then _ _ _ c.in_ok-show_command.ensures.keeps c.run_unless_dry.ensures.keeps_host)

pub returns-in_err-time-clause-took : goal.returns-in_err-time-clause-took
returns-in_err-time-clause-took g c =
    let e = g.E.Evaluation.promised c.args.evaluation.now in
    let p : Question → Option Answer = both e (g.H.Host.promised c.args.host.now) in
    let b : BodyContents = body_contents_of (g.S.Syntax.answers c.args.body.now.syntax.now) c.args.body.now in
    let prep : Preparation = c.args.preparation.now in
    let r = c.from_residual.result in
    took-exit p (time_steps prep.timestamp_format) (timed_steps b prep c.args.command.now) _ _ c.in_err-time.field-0.0 r c.from_residual.ensures.1 (c.in_err-time.ensures.took e (g.E.Evaluation.requests c.args.evaluation.now))

pub returns-in_err-show_command-clause-took : goal.returns-in_err-show_command-clause-took
returns-in_err-show_command-clause-took g c =
    let e = g.E.Evaluation.promised c.args.evaluation.now in
    let requests = g.E.Evaluation.requests c.args.evaluation.now in
    let p : Question → Option Answer = both e (g.H.Host.promised c.args.host.now) in
    let q : Question → Option Answer = both e (g.H.Host.promised c.ask_time.new.host) in
    let b : BodyContents = body_contents_of (g.S.Syntax.answers c.args.body.now.syntax.now) c.args.body.now in
    let prep : Preparation = c.args.preparation.now in
    let command : GroupCommand = c.args.command.now in
    let time = c.in_ok-time.time in
    let r = c.from_residual-in_err-show_command.result in
    took-then p q (keeps-both e e _ _ (keeps-self e) c.in_ok-time.ensures.keeps) (time_steps prep.timestamp_format) (timed_steps b prep command) _ _ _ time r (c.in_ok-time.ensures.took e requests)
    (took-exit q (show_command_steps b command time) (λ _. unless_dry_steps b prep command) _ _ c.in_err-show_command.field-0.0 r c.from_residual-in_err-show_command.ensures.1 (c.in_err-show_command.ensures.took e requests))

pub returns-clause-took : goal.returns-clause-took
returns-clause-took g c =
    let e = g.E.Evaluation.promised c.args.evaluation.now in
    let requests = g.E.Evaluation.requests c.args.evaluation.now in
    let p : Question → Option Answer = both e (g.H.Host.promised c.args.host.now) in
    let q : Question → Option Answer = both e (g.H.Host.promised c.ask_time.new.host) in
    let o : Question → Option Answer = both e (g.H.Host.promised c.show_command.new.host) in
    let b : BodyContents = body_contents_of (g.S.Syntax.answers c.args.body.now.syntax.now) c.args.body.now in
    let prep : Preparation = c.args.preparation.now in
    let command : GroupCommand = c.args.command.now in
    let time = c.in_ok-time.time in
    let r = c.run_unless_dry.result in
    took-then p q (keeps-both e e _ _ (keeps-self e) c.in_ok-time.ensures.keeps) (time_steps prep.timestamp_format) (timed_steps b prep command) _ _ _ time r (c.in_ok-time.ensures.took e requests)
    (took-then q o (keeps-both e e _ _ (keeps-self e) c.in_ok-show_command.ensures.keeps) (show_command_steps b command time) (λ _. unless_dry_steps b prep command) _ _ _ tt r (c.in_ok-show_command.ensures.took e requests)
    c.run_unless_dry.ensures.took)
