use Rattle.std.proofs.Common.{◌≡◌, Option, Ok, Err, sym, ◌∙◌, ap}
use Rattle.std.specs.Prelude.{Result}
use Rattle.just_errors.specs.declared.run_error.RunError.{RunError}
use Rattle.just_run_layers.specs.declared.host.Entry.TheVariants.{Shell}
use Rattle.just_run_layers.specs.Host.{Answer, Ran}
use Rattle.just_run_layers.specs.Interactions.{Question, both}
use Rattle.just_run_layers.proofs.InteractionLemmas.{took-called}
use Rattle.just_recipe_body.specs.Attributes.{continues_on}
use Rattle.just_recipe_body.specs.Body.{BodyContents, body_contents_of}
use Rattle.just_recipe_body.specs.Judging.{judged}
use Rattle.just_shell_body.specs.ShellBody.{shell_answered, teller_of}
use Rattle.just_recipe_body.specs.declared.judgement.Next.{Next}
use Rattle.just_recipe_body.specs.declared.judgement.Program.TheVariants as program
use Rattle.just_shell_body.specs.declared.lines.GroupCommand.{GroupCommand}
use Rattle.just_recipe_body.proofs.StepEnds.{took-given, took-refused}
use Rattle.just_shell_body.proofs.shell.call_shell.Goals as goal

pub returns-in-Ok-clause-took : goal.returns-in-Ok-clause-took
returns-in-Ok-clause-took g c = λ e requests.
    let p : Question → Option Answer = both e (g.H.Host.promised c.args.host.now) in
    let b : BodyContents = body_contents_of (g.S.Syntax.answers c.args.body.now.syntax.now) c.args.body.now in
    let command : GroupCommand = c.args.command.now in
    let o : Result Next RunError = judged program.Shell (teller_of b command) (continues_on b.recipe) command.marks c.in_ok-answer.answer in
    let is : o ≡ Ok c.in-Ok.next = sym (c.judge.ensures ∙ ap (λ t. judged program.Shell t (continues_on b.recipe) command.marks c.in_ok-answer.answer) c.teller_of-teller.ensures) ∙ c.in-Ok.is in
    took-called e (g.H.Host.promised c.args.host.now) (Shell c.args.call.now) (shell_answered b command) (Ran c.in_ok-answer.answer) requests _ _ _ _
    c.in_ok-answer.ensures.answers c.in_ok-answer.ensures.recorded
    (took-given p _ c.in-Ok.next o is)

pub returns-in-Err-clause-took : goal.returns-in-Err-clause-took
returns-in-Err-clause-took g c = λ e requests.
    let p : Question → Option Answer = both e (g.H.Host.promised c.args.host.now) in
    let b : BodyContents = body_contents_of (g.S.Syntax.answers c.args.body.now.syntax.now) c.args.body.now in
    let command : GroupCommand = c.args.command.now in
    let o : Result Next RunError = judged program.Shell (teller_of b command) (continues_on b.recipe) command.marks c.in_ok-answer.answer in
    let is : o ≡ Err c.in-Err.error = sym (c.judge.ensures ∙ ap (λ t. judged program.Shell t (continues_on b.recipe) command.marks c.in_ok-answer.answer) c.teller_of-teller.ensures) ∙ c.in-Err.is in
    took-called e (g.H.Host.promised c.args.host.now) (Shell c.args.call.now) (shell_answered b command) (Ran c.in_ok-answer.answer) requests _ _ _ _
    c.in_ok-answer.ensures.answers c.in_ok-answer.ensures.recorded
    (took-refused p _ c.in-Err.error o is)
