use Rattle.std.proofs.Common.{◌≡◌, Option, Some, Ok, sym, ◌∙◌, ap, subst}
use Rattle.just_ast_expressions.specs.declared.expression.Expression.{Expression}
use Rattle.just_names.specs.Texts.{Text}
use Rattle.just_run_layers.specs.Covering.{IsCovered, module_of}
use Rattle.just_run_layers.specs.Host.{Answer}
use Rattle.just_run_layers.specs.Interactions.{Return, Log, Question, Interaction, HasTrace, both, log_of}
use Rattle.just_recipe_body.specs.Attributes.{timestamp_of}
use Rattle.just_recipe_body.specs.Body.{BodyContents, body_contents_of, said_format_steps, string_steps}
use Rattle.just_recipe_body.proofs.AttributeLemmas.{timestamp-bound}
use Rattle.just_recipe_body.proofs.StepEnds.{took-exit, took-map}
use Rattle.just_recipe_body.proofs.body.ask_format.Goals as goal

abbrev next : Text → Interaction (Option Text)
next text = Return (Some text)

pub ask_string-requires : goal.ask_string-requires
ask_string-requires g c =
    let b : BodyContents = body_contents_of (g.S.Syntax.answers c.args.body.now.syntax.now) c.args.body.now in
    let e : Expression = c.in-Some-Some.expression in
    let said : timestamp_of b.recipe.attributes ≡ Some (Some e) = ap timestamp_of (sym c.as_slice.ensures) ∙ sym c.in-Some-Some.ensures ∙ ap Some c.in-Some-Some.field-0-is in
    record { covered = timestamp-bound (IsCovered (module_of c.args.body.now.context.now) b.scope) b.recipe.attributes e said c.requires.covered }

pub returns-in_err-ask_string-in-Some-Some-clause-took : goal.returns-in_err-ask_string-in-Some-Some-clause-took
returns-in_err-ask_string-in-Some-Some-clause-took g c = λ h entries.
    let p : Question → Option Answer = both (g.E.Evaluation.promised c.args.evaluation.now) h in
    let b : BodyContents = body_contents_of (g.S.Syntax.answers c.args.body.now.syntax.now) c.args.body.now in
    let e : Expression = c.in-Some-Some.expression in
    let said : timestamp_of b.recipe.attributes ≡ Some (Some e) = ap timestamp_of (sym c.as_slice.ensures) ∙ sym c.in-Some-Some.ensures ∙ ap Some c.in-Some-Some.field-0-is in
    let r = c.from_residual.result in
    let old : Log = log_of entries (g.E.Evaluation.requests c.args.evaluation.now) in
    let new : Log = log_of entries (g.E.Evaluation.requests c.ask_string.new.evaluation) in
    subst (λ s. HasTrace p s old new r) (sym (ap (said_format_steps b) said))
    (took-exit p (string_steps b e) next old new c.in_err-ask_string-in-Some-Some.field-0.0 r c.from_residual.ensures.1 (c.in_err-ask_string-in-Some-Some.ensures.took h entries))

pub returns-in_ok-ask_string-in-Some-Some-clause-took : goal.returns-in_ok-ask_string-in-Some-Some-clause-took
returns-in_ok-ask_string-in-Some-Some-clause-took g c = λ h entries.
    let p : Question → Option Answer = both (g.E.Evaluation.promised c.args.evaluation.now) h in
    let b : BodyContents = body_contents_of (g.S.Syntax.answers c.args.body.now.syntax.now) c.args.body.now in
    let e : Expression = c.in-Some-Some.expression in
    let said : timestamp_of b.recipe.attributes ≡ Some (Some e) = ap timestamp_of (sym c.as_slice.ensures) ∙ sym c.in-Some-Some.ensures ∙ ap Some c.in-Some-Some.field-0-is in
    let text : Text = c.in_ok-ask_string-in-Some-Some.field-0 in
    let old : Log = log_of entries (g.E.Evaluation.requests c.args.evaluation.now) in
    let new : Log = log_of entries (g.E.Evaluation.requests c.ask_string.new.evaluation) in
    subst (λ s. HasTrace p s old new (Ok (Some text))) (sym (ap (said_format_steps b) said))
    (took-map p (string_steps b e) (λ t. Some t) old new text (c.in_ok-ask_string-in-Some-Some.ensures.took h entries))
