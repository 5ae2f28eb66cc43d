use Rattle.std.proofs.Common.{◌≡◌, true, Ok, Some, sym, subst}
use Rattle.std.proofs.lemmas.Bool.{cond-true}
use Rattle.just_run_layers.specs.Interactions.{Return, Log, HasTrace, both, log_of}
use Rattle.just_recipe_body.specs.Body.{show_steps}
use Rattle.just_shell_body.proofs.ShellLemmas.{is-told}
use Rattle.just_recipe_run.specs.RecipeRun.{explained, explained_steps}
use Rattle.just_recipe_run.proofs.run.show_doc.Goals as goal

pub returns-clause-took : goal.returns-clause-took
returns-clause-took g c = λ e requests.
    let h = g.H.Host.promised c.args.host.now in
    let explain : c.args.explain ≡ true = c.if-not-explain.false in
    let old : Log = log_of (g.H.Host.entries c.args.host.now) requests in
    let new : Log = log_of (g.H.Host.entries c.show.new.self) requests in
    let said : c.args.doc.now ≡ Some c.in-Some.doc = c.in-Some.is in
    subst (λ doc. HasTrace (both e h) (explained_steps c.args.explain doc) old new (Ok tt)) (sym said)
    (subst (λ s. HasTrace (both e h) s old new (Ok tt)) (sym (cond-true c.args.explain (show_steps (explained c.in-Some.doc)) (Return tt) explain))
    (subst (λ line. HasTrace (both e h) (show_steps line) old new (Ok tt)) c.in_ok-line.ensures
    (is-told e h c.in_ok-line.line requests _ _ c.in_ok-show.ensures.answers c.in_ok-show.ensures.recorded)))
