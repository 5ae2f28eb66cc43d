use Rattle.std.proofs.Common.{◌≡◌, Option, Ok, Err, sym, ◌∙◌}
use Rattle.std.specs.Prelude.{Result}
use Rattle.just_errors.specs.declared.halt.Halt.TheVariants.{Failed}
use Rattle.just_errors.specs.declared.run_error.RunError.{RunError}
use Rattle.just_run_layers.specs.declared.host.Entry.TheVariants.{Script}
use Rattle.just_run_layers.specs.declared.run_answer.RunAnswer.{RunAnswer}
use Rattle.just_run_layers.specs.Host.{Answer, Ran}
use Rattle.just_run_layers.specs.Interactions.{Return, Question, both}
use Rattle.just_run_layers.proofs.InteractionLemmas.{took-called, took-stop}
use Rattle.just_recipe_body.specs.Attributes.{continues_on}
use Rattle.just_recipe_body.specs.Body.{BodyContents, body_contents_of, concluded}
use Rattle.just_recipe_body.specs.Judging.{judged, no_marks}
use Rattle.just_recipe_body.specs.declared.judgement.Next.{Next}
use Rattle.just_recipe_body.specs.declared.judgement.Program.TheVariants as program
use Rattle.just_recipe_body.specs.declared.judgement.Teller.{Teller}
use Rattle.just_recipe_body.proofs.StepEnds.{took-given, took-map, took-refused}
use Rattle.just_script_body.specs.ScriptBody.{script_answered, script_teller}
use Rattle.just_script_body.proofs.script.call_script.Goals as goal

-- what the call is judged by is that of the definition
as-judged : (b : BodyContents) (t : Teller) (answer : RunAnswer) (r : Result Next RunError) → r ≡ judged program.Script t (continues_on b.recipe) no_marks answer → t ≡ script_teller b →
    judged program.Script (script_teller b) (continues_on b.recipe) no_marks answer ≡ r
as-judged b t answer r j s = sym (j ∙ (λ i. judged program.Script (s i) (continues_on b.recipe) no_marks answer))

pub returns-in-Ok-clause-took : goal.returns-in-Ok-clause-took
returns-in-Ok-clause-took g c = λ e requests.
    let p : Question → Option Answer = both e (g.H.Host.promised c.args.host.now) in
    let b : BodyContents = body_contents_of (g.S.Syntax.answers c.args.body.now.syntax.now) c.args.body.now in
    let o : Result Next RunError = judged program.Script (script_teller b) (continues_on b.recipe) no_marks c.in_ok-answer.answer in
    let is : o ≡ Ok c.in-Ok.field-0 = as-judged b c.teller_of-teller.result c.in_ok-answer.answer c.judge.result c.judge.ensures c.teller_of-teller.ensures ∙ c.in-Ok.is in
    took-called e (g.H.Host.promised c.args.host.now) (Script c.args.call.now) (script_answered b) (Ran c.in_ok-answer.answer) requests _ _ _ _
    c.in_ok-answer.ensures.answers c.in_ok-answer.ensures.recorded
    (took-map p (concluded o) (λ next. tt) _ _ c.in-Ok.field-0 (took-given p _ c.in-Ok.field-0 o is))

pub returns-in-Err-clause-took : goal.returns-in-Err-clause-took
returns-in-Err-clause-took g c = λ e requests.
    let p : Question → Option Answer = both e (g.H.Host.promised c.args.host.now) in
    let b : BodyContents = body_contents_of (g.S.Syntax.answers c.args.body.now.syntax.now) c.args.body.now in
    let o : Result Next RunError = judged program.Script (script_teller b) (continues_on b.recipe) no_marks c.in_ok-answer.answer in
    let is : o ≡ Err c.in-Err.error = as-judged b c.teller_of-teller.result c.in_ok-answer.answer c.judge.result c.judge.ensures c.teller_of-teller.ensures ∙ c.in-Err.is in
    took-called e (g.H.Host.promised c.args.host.now) (Script c.args.call.now) (script_answered b) (Ran c.in_ok-answer.answer) requests _ _ _ _
    c.in_ok-answer.ensures.answers c.in_ok-answer.ensures.recorded
    (took-stop p (concluded o) (λ next. Return tt) _ _ (Failed c.in-Err.error) (took-refused p _ c.in-Err.error o is))
