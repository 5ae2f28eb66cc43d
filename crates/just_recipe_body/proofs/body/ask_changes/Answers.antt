use Rattle.std.proofs.Common.{refl}
use Rattle.just_run_layers.specs.Evaluation.{Environment}
use Rattle.just_run_layers.specs.Host.{Changed, Refused}
use Rattle.just_run_layers.specs.Interactions.{both}
use Rattle.just_run_layers.proofs.InteractionLemmas.{took-asked, took-give, took-fail}
use Rattle.just_recipe_body.specs.Body.{body_contents_of}
use Rattle.just_recipe_body.proofs.body.ask_changes.Goals as goal

pub returns-in-Ok-clause-took : goal.returns-in-Ok-clause-took
returns-in-Ok-clause-took g c = λ h entries.
    let b = body_contents_of (g.S.Syntax.answers c.args.body.now.syntax.now) c.args.body.now in
    took-asked (g.E.Evaluation.promised c.args.evaluation.now) h (Environment b.context.dotenv b.scope b.context.settings b.context.unexports) _ (Changed c.in-Ok.changes) entries _ _ _ _ refl
    (rw c.as_slice.ensures at c.in-Ok.ensures.answers) c.in-Ok.ensures.unrequested
    (took-give (both (g.E.Evaluation.promised c.args.evaluation.now) h) _ c.in-Ok.changes)

pub returns-in-Err-Fault-clause-took : goal.returns-in-Err-Fault-clause-took
returns-in-Err-Fault-clause-took g c = λ h entries.
    let b = body_contents_of (g.S.Syntax.answers c.args.body.now.syntax.now) c.args.body.now in
    (took-asked (g.E.Evaluation.promised c.args.evaluation.now) h (Environment b.context.dotenv b.scope b.context.settings b.context.unexports) _ (Refused c.in-Err-Fault.fault.message) entries _ _ _ _ refl
    (rw (c.as_slice.ensures, c.in-Err-Fault.field-0-is) at c.in-Err-Fault.ensures.answers) c.in-Err-Fault.ensures.unrequested
    (took-fail (both (g.E.Evaluation.promised c.args.evaluation.now) h) _ _))
