use Rattle.std.proofs.Common.{Option, sym, subst, refl}
use Rattle.just_run_layers.specs.Host.{Answer}
use Rattle.just_run_layers.specs.Interactions.{Log, Question, HasTrace, both, log_of}
use Rattle.just_recipe_body.specs.Body.{BodyContents, body_contents_of}
use Rattle.just_recipe_body.proofs.StepEnds.{took-gone}
use Rattle.just_script_body.specs.ScriptBody.{show_time_steps}
use Rattle.just_script_body.proofs.script.show_time.Goals as goal

pub returns-in_err-line-in-Some-clause-took : goal.returns-in_err-line-in-Some-clause-took
returns-in_err-line-in-Some-clause-took g c = λ e requests.
    took-gone (both e (g.H.Host.promised c.args.host.now)) _ _ _ c.from_residual.result c.from_residual.ensures.1 refl

pub returns-in_ok-line-in-Some-clause-took : goal.returns-in_ok-line-in-Some-clause-took
returns-in_ok-line-in-Some-clause-took g c = λ e requests.
    let p : Question → Option Answer = both e (g.H.Host.promised c.args.host.now) in
    let b : BodyContents = body_contents_of (g.S.Syntax.answers c.args.body.now.syntax.now) c.args.body.now in
    let old : Log = log_of (g.H.Host.entries c.args.host.now) requests in
    let new : Log = log_of (g.H.Host.entries c.show_text.new.host) requests in
    subst (λ t. HasTrace p (show_time_steps b t) old new c.show_text.result) (sym c.in-Some.is)
    (rw (c.in_ok-line-in-Some.ensures, c.as_str.ensures, c.lexeme.ensures) at (c.show_text.ensures.took e requests))
