use Rattle.std.proofs.Common.{◌≡◌, ◌∙◌, ap}
use Rattle.just_run_layers.specs.declared.host.Entry.TheVariants.{Confirm}
use Rattle.just_run_layers.specs.Host.{TextGiven, Refused}
use Rattle.just_run_layers.specs.Interactions.{both}
use Rattle.just_run_layers.proofs.InteractionLemmas.{took-called, took-give, took-fail}
use Rattle.just_recipe_body.specs.Confirmation.{is_yes, line_answered}
use Rattle.just_recipe_body.proofs.confirmation.ask_host.Goals as goal

pub returns-in-Ok-clause-took : goal.returns-in-Ok-clause-took
returns-in-Ok-clause-took g c = λ e requests.
    let said : c.is_yes.result ≡ is_yes c.in-Ok.line = c.is_yes.ensures ∙ ap is_yes c.as_str.ensures in
    took-called e (g.H.Host.promised c.args.host.now) (Confirm c.args.prompt.now) line_answered (TextGiven c.in-Ok.line) requests _ _ _ _
    c.in-Ok.ensures.answers c.in-Ok.ensures.recorded
    (rw said (took-give (both e (g.H.Host.promised c.args.host.now)) _ (is_yes c.in-Ok.line)))

pub returns-in-Err-Fault-clause-took : goal.returns-in-Err-Fault-clause-took
returns-in-Err-Fault-clause-took g c = λ e requests.
    took-called e (g.H.Host.promised c.args.host.now) (Confirm c.args.prompt.now) line_answered (Refused c.in-Err-Fault.fault.message) requests _ _ _ _
    (rw c.in-Err-Fault.field-0-is at c.in-Err-Fault.ensures.answers) (rw c.in-Err-Fault.field-0-is at c.in-Err-Fault.ensures.recorded)
    (took-fail (both e (g.H.Host.promised c.args.host.now)) _ _)
