use Rattle.std.proofs.Common.{◌≡◌, Bool, Option, Some, None, sym, ◌∙◌, ap, subst, refl}
use Rattle.std.specs.Prelude.{Result}
use Rattle.just_ast_expressions.specs.declared.expression.Expression.{Expression}
use Rattle.just_errors.specs.declared.halt.Halt.{Halt}
use Rattle.just_names.specs.Texts.{Text}
use Rattle.just_run_layers.specs.Covering.{IsCovered, module_of}
use Rattle.just_run_layers.specs.Host.{Answer}
use Rattle.just_run_layers.specs.Interactions.{Log, Question, Interaction, HasTrace, both, log_of}
use Rattle.just_run_layers.proofs.InteractionLemmas.{keeps-self, keeps-both, took-then}
use Rattle.just_recipe_body.specs.Attributes.{first_said}
use Rattle.just_recipe_body.specs.Body.{BodyContents, body_contents_of, string_steps}
use Rattle.just_recipe_body.specs.Confirmation.{confirm_by, confirmation_in, prompt_steps, said_prompt, usual_prompt}
use Rattle.just_recipe_body.proofs.AttributeLemmas.{confirmation-bound}
use Rattle.just_recipe_body.proofs.StepEnds.{took-exit, took-gone}
use Rattle.just_recipe_body.proofs.confirmation.confirm.Goals as goal

abbrev next : Text → Interaction Bool
next text = prompt_steps (said_prompt text)

pub ask_string-requires : goal.ask_string-requires
ask_string-requires g c =
    let b : BodyContents = body_contents_of (g.S.Syntax.answers c.args.body.now.syntax.now) c.args.body.now in
    let e : Expression = c.in-Some-Some.expression in
    let said : first_said confirmation_in b.recipe.attributes ≡ Some (Some e) = ap (first_said confirmation_in) (sym c.as_slice.ensures) ∙ sym c.in-Some-Some.ensures ∙ ap Some c.in-Some-Some.field-0-is in
    record { covered = confirmation-bound (IsCovered (module_of c.args.body.now.context.now) b.scope) b.recipe.attributes e said c.requires.covered }

pub returns-in_err-text-in-Some-Some-clause-took : goal.returns-in_err-text-in-Some-Some-clause-took
returns-in_err-text-in-Some-Some-clause-took g c =
    let h = g.H.Host.promised c.args.host.now in
    let entries = g.H.Host.entries c.args.host.now in
    let p : Question → Option Answer = both (g.E.Evaluation.promised c.args.evaluation.now) h in
    let b : BodyContents = body_contents_of (g.S.Syntax.answers c.args.body.now.syntax.now) c.args.body.now in
    let e : Expression = c.in-Some-Some.expression in
    let said : first_said confirmation_in b.recipe.attributes ≡ Some (Some e) = ap (first_said confirmation_in) (sym c.as_slice.ensures) ∙ sym c.in-Some-Some.ensures ∙ ap Some c.in-Some-Some.field-0-is in
    let r : Result Bool Halt = c.from_residual.result in
    let old : Log = log_of entries (g.E.Evaluation.requests c.args.evaluation.now) in
    let new : Log = log_of entries (g.E.Evaluation.requests c.ask_string.new.evaluation) in
    subst (λ s. HasTrace p s old new r) (sym (ap (confirm_by b) said))
    (took-exit p (string_steps b e) next old new c.in_err-text-in-Some-Some.field-0.0 r c.from_residual.ensures.1 (c.in_err-text-in-Some-Some.ensures.took h entries))

pub returns-in_err-said_prompt-in-Some-Some-clause-took : goal.returns-in_err-said_prompt-in-Some-Some-clause-took
returns-in_err-said_prompt-in-Some-Some-clause-took g c =
    let h = g.H.Host.promised c.args.host.now in
    let entries = g.H.Host.entries c.args.host.now in
    let p : Question → Option Answer = both (g.E.Evaluation.promised c.args.evaluation.now) h in
    let q : Question → Option Answer = both (g.E.Evaluation.promised c.ask_string.new.evaluation) h in
    let b : BodyContents = body_contents_of (g.S.Syntax.answers c.args.body.now.syntax.now) c.args.body.now in
    let e : Expression = c.in-Some-Some.expression in
    let said : first_said confirmation_in b.recipe.attributes ≡ Some (Some e) = ap (first_said confirmation_in) (sym c.as_slice.ensures) ∙ sym c.in-Some-Some.ensures ∙ ap Some c.in-Some-Some.field-0-is in
    let r : Result Bool Halt = c.from_residual-in_err-said_prompt-in-Some-Some.result in
    let old : Log = log_of entries (g.E.Evaluation.requests c.args.evaluation.now) in
    let new : Log = log_of entries (g.E.Evaluation.requests c.ask_string.new.evaluation) in
    let text : Text = c.in_ok-text-in-Some-Some.text in
    subst (λ s. HasTrace p s old new r) (sym (ap (confirm_by b) said))
    (took-then p q (keeps-both _ _ h h c.in_ok-text-in-Some-Some.ensures.keeps (keeps-self h)) (string_steps b e) next old new new text r (c.in_ok-text-in-Some-Some.ensures.took h entries)
    (took-gone q (next text) new new r c.from_residual-in_err-said_prompt-in-Some-Some.ensures.1 refl))

pub returns-in_ok-said_prompt-in-Some-Some-clause-took : goal.returns-in_ok-said_prompt-in-Some-Some-clause-took
returns-in_ok-said_prompt-in-Some-Some-clause-took g c =
    let h = g.H.Host.promised c.args.host.now in
    let entries = g.H.Host.entries c.args.host.now in
    let after = g.E.Evaluation.requests c.ask_string.new.evaluation in
    let p : Question → Option Answer = both (g.E.Evaluation.promised c.args.evaluation.now) h in
    let q : Question → Option Answer = both (g.E.Evaluation.promised c.ask_string.new.evaluation) h in
    let b : BodyContents = body_contents_of (g.S.Syntax.answers c.args.body.now.syntax.now) c.args.body.now in
    let e : Expression = c.in-Some-Some.expression in
    let said : first_said confirmation_in b.recipe.attributes ≡ Some (Some e) = ap (first_said confirmation_in) (sym c.as_slice.ensures) ∙ sym c.in-Some-Some.ensures ∙ ap Some c.in-Some-Some.field-0-is in
    let r : Result Bool Halt = c.ask_host-in-Some-Some.result in
    let old : Log = log_of entries (g.E.Evaluation.requests c.args.evaluation.now) in
    let mid : Log = log_of entries after in
    let new : Log = log_of (g.H.Host.entries c.ask_host-in-Some-Some.new.host) after in
    let text : Text = c.in_ok-text-in-Some-Some.text in
    subst (λ s. HasTrace p s old new r) (sym (ap (confirm_by b) said))
    (took-then p q (keeps-both _ _ h h c.in_ok-text-in-Some-Some.ensures.keeps (keeps-self h)) (string_steps b e) next old mid new text r (c.in_ok-text-in-Some-Some.ensures.took h entries)
    (subst (λ prompt. HasTrace q (prompt_steps prompt) mid new r) c.in_ok-said_prompt-in-Some-Some.ensures
    (c.ask_host-in-Some-Some.ensures.took (g.E.Evaluation.promised c.ask_string.new.evaluation) after)))

pub returns-in_ok-usual_prompt-in-Some-None-clause-took : goal.returns-in_ok-usual_prompt-in-Some-None-clause-took
returns-in_ok-usual_prompt-in-Some-None-clause-took g c =
    let e = g.E.Evaluation.promised c.args.evaluation.now in
    let requests = g.E.Evaluation.requests c.args.evaluation.now in
    let p : Question → Option Answer = both e (g.H.Host.promised c.args.host.now) in
    let b : BodyContents = body_contents_of (g.S.Syntax.answers c.args.body.now.syntax.now) c.args.body.now in
    let said : first_said confirmation_in b.recipe.attributes ≡ Some None = ap (first_said confirmation_in) (sym c.as_slice.ensures) ∙ sym c.in-Some-None.ensures ∙ ap Some c.in-Some-None.field-0-is in
    let r : Result Bool Halt = c.ask_host-in-Some-None-2.result in
    let old : Log = log_of (g.H.Host.entries c.args.host.now) requests in
    let new : Log = log_of (g.H.Host.entries c.ask_host-in-Some-None-2.new.host) requests in
    subst (λ s. HasTrace p s old new r) (sym (ap (confirm_by b) said))
    (subst (λ prompt. HasTrace p (prompt_steps prompt) old new r) (c.in_ok-usual_prompt-in-Some-None.ensures ∙ ap usual_prompt c.lexeme.ensures)
    (c.ask_host-in-Some-None-2.ensures.took e requests))
