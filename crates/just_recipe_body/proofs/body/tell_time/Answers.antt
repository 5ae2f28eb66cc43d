use Rattle.just_run_layers.specs.declared.host.Entry.TheVariants.{Timestamp}
use Rattle.just_run_layers.specs.Host.{TextGiven, Refused}
use Rattle.just_run_layers.specs.Interactions.{both}
use Rattle.just_run_layers.proofs.InteractionLemmas.{took-called, took-give, took-fail}
use Rattle.just_recipe_body.proofs.body.tell_time.Goals as goal

pub returns-in-Ok-clause-took : goal.returns-in-Ok-clause-took
returns-in-Ok-clause-took g c = λ e requests.
    took-called e (g.H.Host.promised c.args.host.now) (Timestamp c.args.format.now) _ (TextGiven c.in-Ok.time) requests _ _ _ _
    c.in-Ok.ensures.answers c.in-Ok.ensures.recorded
    (took-give (both e (g.H.Host.promised c.args.host.now)) _ c.in-Ok.time)

pub returns-in-Err-Fault-clause-took : goal.returns-in-Err-Fault-clause-took
returns-in-Err-Fault-clause-took g c = λ e requests.
    took-called e (g.H.Host.promised c.args.host.now) (Timestamp c.args.format.now) _ (Refused c.in-Err-Fault.fault.message) requests _ _ _ _
    (rw c.in-Err-Fault.field-0-is at c.in-Err-Fault.ensures.answers) (rw c.in-Err-Fault.field-0-is at c.in-Err-Fault.ensures.recorded)
    (took-fail (both e (g.H.Host.promised c.args.host.now)) _ _)
