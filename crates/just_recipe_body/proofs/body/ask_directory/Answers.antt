use Rattle.std.proofs.Common.{◌≡◌, Option, Some, Ok, sym, ◌∙◌, ap, subst, refl}
use Rattle.std.specs.Path.{path_join}
use Rattle.just_ast_expressions.specs.declared.expression.Expression.{Expression}
use Rattle.just_names.specs.Texts.{Text}
use Rattle.just_run_layers.specs.Covering.{IsCovered, module_of}
use Rattle.just_run_layers.specs.Host.{Answer}
use Rattle.just_run_layers.specs.Interactions.{Return, Log, Question, Interaction, HasTrace, both, log_of}
use Rattle.just_run_layers.proofs.InteractionLemmas.{keeps-self, keeps-both, took-then, took-give}
use Rattle.just_recipe_body.specs.Attributes.{directory_of}
use Rattle.just_recipe_body.specs.Body.{BodyContents, body_contents_of, folder, string_steps}
use Rattle.just_recipe_body.proofs.AttributeLemmas.{directory-bound, directory-changed}
use Rattle.just_recipe_body.proofs.StepEnds.{took-exit, took-gone}
use Rattle.just_recipe_body.proofs.body.ask_directory.Goals as goal

abbrev next : BodyContents → Text → Interaction (Option Text)
next b text = Return (Some (path_join (folder b) text))

pub ask_string-requires : goal.ask_string-requires
ask_string-requires g c =
    let b : BodyContents = body_contents_of (g.S.Syntax.answers c.args.body.now.syntax.now) c.args.body.now in
    let e : Expression = c.in-Some.expression.now in
    let said : directory_of b.recipe.attributes ≡ Some e = ap directory_of (sym c.as_slice.ensures) ∙ sym c.in-Some.ensures in
    record { covered = directory-bound (IsCovered (module_of c.args.body.now.context.now) b.scope) b.recipe.attributes e said c.requires.covered }

pub returns-in_err-text-in-Some-clause-took : goal.returns-in_err-text-in-Some-clause-took
returns-in_err-text-in-Some-clause-took g c = λ h entries.
    let p : Question → Option Answer = both (g.E.Evaluation.promised c.args.evaluation.now) h in
    let b : BodyContents = body_contents_of (g.S.Syntax.answers c.args.body.now.syntax.now) c.args.body.now in
    let e : Expression = c.in-Some.expression.now in
    let said : directory_of b.recipe.attributes ≡ Some e = ap directory_of (sym c.as_slice.ensures) ∙ sym c.in-Some.ensures in
    let r = c.from_residual.result in
    let old : Log = log_of entries (g.E.Evaluation.requests c.args.evaluation.now) in
    let new : Log = log_of entries (g.E.Evaluation.requests c.ask_string.new.evaluation) in
    subst (λ s. HasTrace p s old new r) (sym (directory-changed b (Some e) (sym c.if-not-changes_directory.ensures) said))
    (took-exit p (string_steps b e) (next b) old new c.in_err-text-in-Some.field-0.0 r c.from_residual.ensures.1 (c.in_err-text-in-Some.ensures.took h entries))

pub returns-in_err-join-in-Some-clause-took : goal.returns-in_err-join-in-Some-clause-took
returns-in_err-join-in-Some-clause-took g c = λ h entries.
    let p : Question → Option Answer = both (g.E.Evaluation.promised c.args.evaluation.now) h in
    let q : Question → Option Answer = both (g.E.Evaluation.promised c.ask_string.new.evaluation) h in
    let b : BodyContents = body_contents_of (g.S.Syntax.answers c.args.body.now.syntax.now) c.args.body.now in
    let e : Expression = c.in-Some.expression.now in
    let said : directory_of b.recipe.attributes ≡ Some e = ap directory_of (sym c.as_slice.ensures) ∙ sym c.in-Some.ensures in
    let r = c.from_residual-in_err-join-in-Some.result in
    let old : Log = log_of entries (g.E.Evaluation.requests c.args.evaluation.now) in
    let new : Log = log_of entries (g.E.Evaluation.requests c.ask_string.new.evaluation) in
    subst (λ s. HasTrace p s old new r) (sym (directory-changed b (Some e) (sym c.if-not-changes_directory.ensures) said))
    (took-then p q (keeps-both _ _ h h c.in_ok-text-in-Some.ensures.keeps (keeps-self h)) (string_steps b e) (next b) old new new c.in_ok-text-in-Some.text r (c.in_ok-text-in-Some.ensures.took h entries)
    (took-gone q (next b c.in_ok-text-in-Some.text) new new r c.from_residual-in_err-join-in-Some.ensures.1 refl))

pub returns-in_ok-join-in-Some-clause-took : goal.returns-in_ok-join-in-Some-clause-took
returns-in_ok-join-in-Some-clause-took g c = λ h entries.
    let p : Question → Option Answer = both (g.E.Evaluation.promised c.args.evaluation.now) h in
    let q : Question → Option Answer = both (g.E.Evaluation.promised c.ask_string.new.evaluation) h in
    let b : BodyContents = body_contents_of (g.S.Syntax.answers c.args.body.now.syntax.now) c.args.body.now in
    let e : Expression = c.in-Some.expression.now in
    let text : Text = c.in_ok-text-in-Some.text in
    let said : directory_of b.recipe.attributes ≡ Some e = ap directory_of (sym c.as_slice.ensures) ∙ sym c.in-Some.ensures in
    let made : c.in_ok-join-in-Some.field-0 ≡ path_join (folder b) text =
    c.in_ok-join-in-Some.ensures ∙ ap (λ f. path_join f c.as_str-in-Some.result.now) (c.as_str.ensures ∙ c.folder.ensures) ∙ ap (path_join (folder b)) c.as_str-in-Some.ensures in
    let old : Log = log_of entries (g.E.Evaluation.requests c.args.evaluation.now) in
    let new : Log = log_of entries (g.E.Evaluation.requests c.ask_string.new.evaluation) in
    subst (λ s. HasTrace p s old new (Ok (Some c.in_ok-join-in-Some.field-0))) (sym (directory-changed b (Some e) (sym c.if-not-changes_directory.ensures) said))
    (took-then p q (keeps-both _ _ h h c.in_ok-text-in-Some.ensures.keeps (keeps-self h)) (string_steps b e) (next b) old new new text (Ok (Some c.in_ok-join-in-Some.field-0)) (c.in_ok-text-in-Some.ensures.took h entries)
    (subst (λ t. HasTrace q (next b text) new new (Ok (Some t))) (sym made) (took-give q new (Some (path_join (folder b) text)))))
