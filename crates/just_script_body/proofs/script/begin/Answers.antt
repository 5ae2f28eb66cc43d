use Rattle.std.proofs.Common.{Option}
use Rattle.just_names.specs.Texts.{Text}
use Rattle.just_run_layers.specs.Host.{Answer}
use Rattle.just_run_layers.specs.Interactions.{Question, Interaction, and_then, both}
use Rattle.just_run_layers.proofs.InteractionLemmas.{keeps-then, keeps-self, keeps-both, took-then}
use Rattle.just_recipe_body.specs.Body.{BodyContents, body_contents_of, format_steps, time_steps}
use Rattle.just_recipe_body.proofs.StepEnds.{took-exit}
use Rattle.just_script_body.specs.ScriptBody.{show_time_steps}
use Rattle.just_script_body.proofs.script.begin.Goals as goal

abbrev next : BodyContents → Option Text → Interaction (Unit {0})
next b format = and_then (time_steps format) (show_time_steps b)

pub returns-clause-keeps_host : goal.returns-clause-keeps_host
returns-clause-keeps_host g c = keeps-then _ _ _ c.in_ok-time.ensures.keeps c.show_time.ensures.keeps

pub returns-in_err-format-clause-took : goal.returns-in_err-format-clause-took
returns-in_err-format-clause-took g c =
    let h = g.H.Host.promised c.args.host.now in
    let p : Question → Option Answer = both (g.E.Evaluation.promised c.args.evaluation.now) h in
    let b : BodyContents = body_contents_of (g.S.Syntax.answers c.args.body.now.syntax.now) c.args.body.now in
    let r = c.from_residual.result in
    took-exit p (format_steps b) (next b) _ _ c.in_err-format.field-0.0 r c.from_residual.ensures.1 (c.in_err-format.ensures.took h (g.H.Host.entries c.args.host.now))

pub returns-in_err-time-clause-took : goal.returns-in_err-time-clause-took
returns-in_err-time-clause-took g c =
    let e = g.E.Evaluation.promised c.ask_format.new.evaluation in
    let h = g.H.Host.promised c.args.host.now in
    let p : Question → Option Answer = both (g.E.Evaluation.promised c.args.evaluation.now) h in
    let q : Question → Option Answer = both e h in
    let b : BodyContents = body_contents_of (g.S.Syntax.answers c.args.body.now.syntax.now) c.args.body.now in
    let format = c.in_ok-format.format in
    let r = c.from_residual-in_err-time.result in
    took-then p q (keeps-both _ _ h h c.in_ok-format.ensures.keeps (keeps-self h)) (format_steps b) (next b) _ _ _ format r (c.in_ok-format.ensures.took h (g.H.Host.entries c.args.host.now))
    (took-exit q (time_steps format) (show_time_steps b) _ _ c.in_err-time.field-0.0 r c.from_residual-in_err-time.ensures.1 (c.in_err-time.ensures.took e (g.E.Evaluation.requests c.ask_format.new.evaluation)))

pub returns-clause-took : goal.returns-clause-took
returns-clause-took g c =
    let e = g.E.Evaluation.promised c.ask_format.new.evaluation in
    let requests = g.E.Evaluation.requests c.ask_format.new.evaluation in
    let h = g.H.Host.promised c.args.host.now in
    let p : Question → Option Answer = both (g.E.Evaluation.promised c.args.evaluation.now) h in
    let q : Question → Option Answer = both e h in
    let o : Question → Option Answer = both e (g.H.Host.promised c.ask_time.new.host) in
    let b : BodyContents = body_contents_of (g.S.Syntax.answers c.args.body.now.syntax.now) c.args.body.now in
    let format = c.in_ok-format.format in
    let time = c.in_ok-time.time in
    let r = c.show_time.result in
    took-then p q (keeps-both _ _ h h c.in_ok-format.ensures.keeps (keeps-self h)) (format_steps b) (next b) _ _ _ format r (c.in_ok-format.ensures.took h (g.H.Host.entries c.args.host.now))
    (took-then q o (keeps-both e e _ _ (keeps-self e) c.in_ok-time.ensures.keeps) (time_steps format) (show_time_steps b) _ _ _ time r (c.in_ok-time.ensures.took e requests)
    (c.show_time.ensures.took e requests))
