use Rattle.std.proofs.Common.{Option, None, Some, sym, ◌∙◌}
use Rattle.just_run_layers.specs.declared.host.Entry.TheVariants.{Command}
use Rattle.just_run_layers.specs.Host.{Answer, Ran}
use Rattle.just_run_layers.specs.Interactions.{Question, both}
use Rattle.just_run_layers.proofs.InteractionLemmas.{took-called}
use Rattle.just_recipe_body.proofs.StepEnds.{took-given, took-refused}
use Rattle.just_invoke.specs.Command.{judged_program, program_ended}
use Rattle.just_invoke.proofs.Commands.{call-executes}
use Rattle.just_invoke.proofs.command_run.call_program.Goals as goal

pub returns-in_err-answer-clause-nothing_runs : goal.returns-in_err-answer-clause-nothing_runs
returns-in_err-answer-clause-nothing_runs g c = call-executes _ _ c.args.call None c.in_err-answer.ensures.recorded

pub returns-in-Ok-clause-nothing_runs : goal.returns-in-Ok-clause-nothing_runs
returns-in-Ok-clause-nothing_runs g c = call-executes _ _ c.args.call (Some (Ran c.in_ok-answer.answer)) c.in_ok-answer.ensures.recorded

pub returns-in-Ok-clause-took : goal.returns-in-Ok-clause-took
returns-in-Ok-clause-took g c = λ e requests.
    let p : Question → Option Answer = both e (g.H.Host.promised c.args.host.now) in
    took-called e (g.H.Host.promised c.args.host.now) (Command c.args.call) (program_ended c.args.call) (Ran c.in_ok-answer.answer) requests _ _ _ _
    c.in_ok-answer.ensures.answers c.in_ok-answer.ensures.recorded
    (took-given p _ tt (judged_program c.args.call c.in_ok-answer.answer) (sym c.judge.ensures ∙ c.in-Ok.is))

pub returns-in-Err-clause-nothing_runs : goal.returns-in-Err-clause-nothing_runs
returns-in-Err-clause-nothing_runs g c = call-executes _ _ c.args.call (Some (Ran c.in_ok-answer.answer)) c.in_ok-answer.ensures.recorded

pub returns-in-Err-clause-took : goal.returns-in-Err-clause-took
returns-in-Err-clause-took g c = λ e requests.
    let p : Question → Option Answer = both e (g.H.Host.promised c.args.host.now) in
    took-called e (g.H.Host.promised c.args.host.now) (Command c.args.call) (program_ended c.args.call) (Ran c.in_ok-answer.answer) requests _ _ _ _
    c.in_ok-answer.ensures.answers c.in_ok-answer.ensures.recorded
    (took-refused p _ c.in-Err.error (judged_program c.args.call c.in_ok-answer.answer) (sym c.judge.ensures ∙ c.in-Err.is))
