use Rattle.just_run_layers.specs.declared.host.Entry.TheVariants.{Show}
use Rattle.just_run_layers.specs.Host.{Done}
use Rattle.just_run_layers.specs.Interactions.{Return, both}
use Rattle.just_run_layers.proofs.InteractionLemmas.{took-called, took-give}
use Rattle.just_script_body.proofs.lines.show_text.Goals as goal

pub returns-clause-took : goal.returns-clause-took
returns-clause-took g c = λ e requests.
    let h = g.H.Host.promised c.args.host.now in
    took-called e h (Show c.args.text.now) (λ answer. Return tt) Done requests _ _ _ _ c.in_ok-show.ensures.answers c.in_ok-show.ensures.recorded
    (took-give (both e h) _ tt)
