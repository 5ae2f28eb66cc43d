use Rattle.std.proofs.Common.{refl}
use Rattle.just_justfile.specs.declared.justfile.Justfile.{out-Justfile}
use Rattle.just_run_layers.specs.Evaluation.{Environment}
use Rattle.just_run_layers.specs.Host.{Changed, Refused}
use Rattle.just_run_layers.specs.Interactions.{both}
use Rattle.just_run_layers.proofs.InteractionLemmas.{took-asked, took-fail, took-give}
use Rattle.just_invoke.proofs.command_run.ask_changes.Goals as goal

pub returns-in-Ok-clause-took : goal.returns-in-Ok-clause-took
returns-in-Ok-clause-took g c = λ h entries.
    let root = out-Justfile c.args.root.now in
    took-asked (g.E.Evaluation.promised c.args.evaluation.now) h (Environment c.args.dotenv.now c.args.scope.now root.settings root.unexports) _ (Changed c.in-Ok.changes) entries _ _ _ _ refl
    (rw c.as_slice.ensures at c.in-Ok.ensures.answers) c.in-Ok.ensures.unrequested
    (took-give (both (g.E.Evaluation.promised c.args.evaluation.now) h) _ c.in-Ok.changes)

pub returns-in-Err-Fault-clause-took : goal.returns-in-Err-Fault-clause-took
returns-in-Err-Fault-clause-took g c = λ h entries.
    let root = out-Justfile c.args.root.now in
    took-asked (g.E.Evaluation.promised c.args.evaluation.now) h (Environment c.args.dotenv.now c.args.scope.now root.settings root.unexports) _ (Refused c.in-Err-Fault.fault.message) entries _ _ _ _ refl
    (rw (c.as_slice.ensures, c.in-Err-Fault.field-0-is) at c.in-Err-Fault.ensures.answers) c.in-Err-Fault.ensures.unrequested
    (took-fail (both (g.E.Evaluation.promised c.args.evaluation.now) h) _ _)
