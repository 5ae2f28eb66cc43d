use Rattle.std.proofs.Common.{Option}
use Rattle.just_run_layers.specs.Host.{Answer}
use Rattle.just_run_layers.specs.Interactions.{Return, Question, both}
use Rattle.just_run_layers.proofs.InteractionLemmas.{took-give}
use Rattle.just_script_body.specs.ScriptBody.{show_all_steps}
use Rattle.just_script_body.proofs.ScriptLemmas.{took-else, took-where}
use Rattle.just_script_body.proofs.lines.show_if.Goals as goal

pub returns-then-is_shown-clause-took : goal.returns-then-is_shown-clause-took
returns-then-is_shown-clause-took g c = λ e requests.
    let p : Question → Option Answer = both e (g.H.Host.promised c.args.host.now) in
    took-where p c.args.is_shown (show_all_steps c.args.texts.now) (Return tt) _ _ c.show_all.result c.if-is_shown.true (rw c.as_slice.ensures at (c.show_all.ensures.took e requests))

pub returns-clause-took : goal.returns-clause-took
returns-clause-took g c = λ e requests.
    let p : Question → Option Answer = both e (g.H.Host.promised c.args.host.now) in
    took-else p c.args.is_shown (show_all_steps c.args.texts.now) (Return tt) _ _ _ c.if-is_shown.false (took-give p _ tt)
