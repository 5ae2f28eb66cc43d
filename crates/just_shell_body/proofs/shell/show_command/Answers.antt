use Rattle.std.proofs.Common.{sym, refl}
use Rattle.just_run_layers.specs.Interactions.{both}
use Rattle.just_recipe_body.specs.Body.{BodyContents, body_contents_of}
use Rattle.just_shell_body.proofs.ShellLemmas.{not-shown, of-shown, is-told}
use Rattle.just_recipe_body.proofs.StepEnds.{took-gone}
use Rattle.just_shell_body.proofs.shell.show_command.Goals as goal

pub returns-then-not-is_shown-clause-took : goal.returns-then-not-is_shown-clause-took
returns-then-not-is_shown-clause-took g c = λ e requests.
    let b : BodyContents = body_contents_of (g.S.Syntax.answers c.args.body.now.syntax.now) c.args.body.now in
    not-shown (both e (g.H.Host.promised c.args.host.now)) b c.args.command.now c.args.time.now _ (sym c.if-not-is_shown.ensures)

pub returns-in_err-line-clause-took : goal.returns-in_err-line-clause-took
returns-in_err-line-clause-took g c = λ e requests.
    took-gone (both e (g.H.Host.promised c.args.host.now)) _ _ _ c.from_residual.result c.from_residual.ensures.1 refl

pub returns-clause-took : goal.returns-clause-took
returns-clause-took g c = λ e requests.
    let h = g.H.Host.promised c.args.host.now in
    let b : BodyContents = body_contents_of (g.S.Syntax.answers c.args.body.now.syntax.now) c.args.body.now in
    of-shown (both e h) b c.args.command.now c.args.time.now _ _ _ (sym c.if-not-is_shown.ensures)
    (rw c.in_ok-line.ensures at (is-told e h c.in_ok-line.line requests _ _ c.in_ok-show.ensures.answers c.in_ok-show.ensures.recorded))
