use Rattle.std.proofs.Common.{◌≡◌, ◌<◌, length, subst, arith, inl, inr, rules}
use Rattle.std.proofs.lemmas.Bool.{cases_lt}
use Rattle.std.proofs.lemmas.Grind.{common_steps}
use Rattle.std.proofs.lemmas.Result.{IfErr-weaker}
use Rattle.just_errors.specs.Causes.{Keeps, Reports}
use Rattle.just_errors.proofs.Lifts.{reports_by}
use Rattle.just_recipe.specs.declared.dependency.UnresolvedDependency.{UnresolvedDependency}
use Rattle.just_recipe.specs.declared.recipe.Recipe.{Recipe}
use Rattle.just_module_contents.specs.Definitions.{recipes_in}
use Rattle.just_module_contents.specs.Recipes.{recipe_at}
use Rattle.just_module_contents.specs.Shells.{BreaksShellRecipe, BreaksShells, of_recipe}
use Rattle.just_module_bodies.proofs.Grouping.{shells_kept}
use Rattle.just_module_contents.proofs.RecipePlaces.{length-lent}
use Rattle.just_module_bodies.proofs.shells.check_shells.Goals as goal

pub loop-place-preserved : goal.loop-place-preserved
loop-place-preserved g c = λ k h.
    let answers = g.S.Syntax.answers c.args.syntax.now in
    let rs = recipes_in c.args.definitions.now in
    elim (cases_lt k c.loop-place.place) [
      | inl l ↦ c.loop-place.invariant k l
      | inr l ↦
          let same : c.loop-place.place ≡ k = omega (arith, h, l) in
          subst (λ i. Keeps (BreaksShellRecipe answers c.args.settings.now (recipe_at rs i))) same
          (subst (λ (r : Recipe UnresolvedDependency). Keeps (BreaksShellRecipe answers c.args.settings.now r)) c.recipe_at.ensures.there c.in_ok-check_shell.ensures.kept)
    ]

pub returns-in_err-check_shell-clause-named : goal.returns-in_err-check_shell-clause-named
returns-in_err-check_shell-clause-named g c =
    let answers = g.S.Syntax.answers c.args.syntax.now in
    let rs = recipes_in c.args.definitions.now in
    let r = c.recipe_at.result.now in
    let long : length rs ≡ length c.args.definitions.now.recipes.items = length-lent c.args.definitions.now.recipes.items in
    let count : c.len-place-end.result ≡ length c.args.definitions.now.recipes.items = grind (arith, common_steps) in
    let inside : c.loop-place.place < length rs = omega arith in
    IfErr-weaker c.from_residual.result (Reports (BreaksShellRecipe answers c.args.settings.now r)) _
    (λ e h. reports_by (BreaksShellRecipe answers c.args.settings.now r) (BreaksShells answers c.args.settings.now rs)
    (λ x k. of_recipe c.loop-place.place inside (subst (λ (q : Recipe UnresolvedDependency). BreaksShellRecipe answers c.args.settings.now q x) c.recipe_at.ensures.there k)) e h) (search rules)

pub returns-clause-kept : goal.returns-clause-kept
returns-clause-kept g c =
    let rs = recipes_in c.args.definitions.now in
    let long : length rs ≡ length c.args.definitions.now.recipes.items = length-lent c.args.definitions.now.recipes.items in
    let count : c.len-place-end.result ≡ length c.args.definitions.now.recipes.items = grind (arith, common_steps) in
    shells_kept (g.S.Syntax.answers c.args.syntax.now) c.args.settings.now rs (λ k h. c.loop-place.invariant k (omega (arith, h, long, count, c.loop-place-test.false)))
