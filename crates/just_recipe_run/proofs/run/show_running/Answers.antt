use Rattle.std.proofs.Common.{◌≡◌, true, Ok, sym, subst}
use Rattle.std.proofs.lemmas.Bool.{cond-true}
use Rattle.just_run_layers.specs.Interactions.{Return, Log, HasTrace, both, log_of}
use Rattle.just_recipe_body.specs.Body.{show_steps}
use Rattle.just_shell_body.proofs.ShellLemmas.{is-told}
use Rattle.just_recipe_run.specs.RecipeRun.{running_text}
use Rattle.just_recipe_run.proofs.run.show_running.Goals as goal

pub returns-clause-took : goal.returns-clause-took
returns-clause-took g c = λ e requests.
    let h = g.H.Host.promised c.args.host.now in
    let loquacious : c.args.loquacious ≡ true = c.if-not-loquacious.false in
    let old : Log = log_of (g.H.Host.entries c.args.host.now) requests in
    let new : Log = log_of (g.H.Host.entries c.show.new.self) requests in
    subst (λ s. HasTrace (both e h) s old new (Ok tt)) (sym (cond-true c.args.loquacious (show_steps (running_text c.args.path.now)) (Return tt) loquacious))
    (subst (λ line. HasTrace (both e h) (show_steps line) old new (Ok tt)) c.in_ok-line.ensures
    (is-told e h c.in_ok-line.line requests _ _ c.in_ok-show.ensures.answers c.in_ok-show.ensures.recorded))
