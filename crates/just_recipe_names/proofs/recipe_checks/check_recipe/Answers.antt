use Rattle.std.proofs.Common.{◌≡◌, ◌∙◌, ◌∷◌, [], ap, arith, rules}
use Rattle.std.specs.HashSet.{contains}
use Rattle.std.specs.Str.{bytes_eq}
use Rattle.std.proofs.lemmas.List.{nil_from_length}
use Rattle.std.proofs.lemmas.Result.{IfErr-weaker}
use Rattle.just_errors.specs.Causes.{Reports}
use Rattle.just_errors.proofs.Lifts.{reports_by}
use Rattle.just_name_resolution.specs.Lent.{known_in}
use Rattle.just_parts.specs.Misnaming.{Misnames}
use Rattle.just_parts.specs.Scopes.{scoped}
use Rattle.just_module_contents.specs.RecipeNames.{BreaksRecipeNames}
use Rattle.just_recipe_names.specs.Steps.{event_of, events, scopes_from}
use Rattle.just_recipe_names.proofs.Checked.{check_begins, check_ends, check_hidden, check_read}
use Rattle.just_recipe_names.proofs.Walking.{next_there, nothing_hides}
use Rattle.just_recipe_names.proofs.recipe_checks.check_recipe.Goals as goal

pub loop-step-init : goal.loop-step-init
loop-step-init g c =
    let all : c.into_iter-step-iterator.result.rest.items ≡ c.in_ok-step-items.step-items.items = search rules in
    check_begins (nothing_hides c.new-hidden.result.keys c.new-hidden.ensures.empty) (ap (λ s. scopes_from [] (events s)) all ∙ c.in_ok-step-items.ensures)

pub loop-step-preserved-in-Continue-branch-2 : goal.loop-step-preserved-in-Continue-branch-2
loop-step-preserved-in-Continue-branch-2 g c =
    let rest = events c.next.new.self.rest.items in
    let next = ap events c.in-Some.ensures.steps.0 ∙ ap (λ s. event_of s ∷ rest) c.in-Reads.is in
    check_read c.in-Reads.expression.now rest next c.in_ok-check_expression-in-Reads.ensures.kept c.loop-step.invariant

pub loop-step-preserved : goal.loop-step-preserved
loop-step-preserved g c =
    let rest = events c.next.new.self.rest.items in
    let next = ap events c.in-Some.ensures.steps.0 ∙ ap (λ s. event_of s ∷ rest) c.in-Hides.is in
    check_hidden c.in-Hides.parameter.now rest (contains bytes_eq c.hide.new.hidden) next c.in_ok-hide-in-Hides.ensures c.loop-step.invariant

pub returns-in_err-check_expression-in-Reads-clause-named : goal.returns-in_err-check_expression-in-Reads-clause-named
returns-in_err-check_expression-in-Reads-clause-named g c =
    let answers = g.S.Syntax.answers c.args.known.now.syntax.now in
    let m = known_in answers c.args.known.now in
    let hidden = contains bytes_eq c.loop-step.hidden in
    let e = c.in-Reads.expression.now in
    let rest = events c.next.new.self.rest.items in
    let next = ap events c.in-Some.ensures.steps.0 ∙ ap (λ s. event_of s ∷ rest) c.in-Reads.is in
    IfErr-weaker c.from_residual-in_err-check_expression-in-Reads.result (Reports (Misnames m hidden e)) _
    (λ error h. reports_by (Misnames m hidden e) (BreaksRecipeNames answers m c.args.settings.now c.args.recipe.now) (λ x wrong. record {
      from = scoped hidden e;
      there = next_there e rest next c.loop-step.invariant.stands;
      wrong = wrong;
    }) error h) (search rules)

pub returns-clause-kept : goal.returns-clause-kept
returns-clause-kept g c =
    let rest = c.loop-step.step-iterator.rest in
    let none : rest.items ≡ [] = nil_from_length rest.items (omega (arith, rest.ok, c.in-None.ensures.steps.0)) in
    λ cause broken. check_ends (ap events none) c.loop-step.invariant broken.from broken.there cause broken.wrong
