use Rattle.std.proofs.Common.{◌≡◌, ◌∙◌, ◌++◌, ◌∷◌, [], ap, get_or, rules, subst, sym}
use Rattle.std.proofs.lemmas.Option.{get_or_from_slice_get}
use Rattle.std.proofs.lemmas.Result.{IfErr-weaker}
use Rattle.just_errors.specs.Causes.{Keeps, Reports}
use Rattle.just_module_contents.specs.Definitions.{recipes_in}
use Rattle.just_module_contents.specs.Recipes.{name_of_recipe, no_recipe, recipe_at}
use Rattle.just_module_contents.specs.Resolved.{path_to}
use Rattle.just_module_recipes.specs.Completed.{BreaksOne, TellsOne, completed_by, with_needed}
use Rattle.just_module_recipes.specs.loops.Making.{links_of}
use Rattle.just_names.specs.Name.{text_of_name}
use Rattle.just_recipe.specs.Resolved.{resolved}
use Rattle.just_recipe.specs.declared.dependency.UnresolvedDependency.{UnresolvedDependency}
use Rattle.just_recipe.specs.declared.recipe.Recipe.{Recipe}
use Rattle.just_recipe_values.specs.Among.{CoversRecipe}
use Rattle.just_module_recipes.proofs.resolution.resolve_one.Goals as goal

pub complete-requires-clause-covered : goal.complete-requires-clause-covered
complete-requires-clause-covered g c =
    let rs = recipes_in c.args.kept.now in
    let lent : c.recipe_at.result.now ≡ recipe_at rs c.args.place = sym (get_or_from_slice_get rs c.args.place c.recipe_at.result.now no_recipe c.recipe_at.ensures.recipe) in
    subst (CoversRecipe c.args.completing.now.among) (sym lent) c.requires.covered

pub returns-in_err-recipe-clause-named : goal.returns-in_err-recipe-clause-named
returns-in_err-recipe-clause-named g c =
    let it = c.args.completing.now in
    let rs = recipes_in c.args.kept.now in
    let tells = TellsOne (g.S.Syntax.answers it.meanings.syntax.now) (g.E.ConstantEvaluation.answers it.among.evaluation.now) it in
    let lent : c.recipe_at.result.now ≡ recipe_at rs c.args.place = sym (get_or_from_slice_get rs c.args.place c.recipe_at.result.now no_recipe c.recipe_at.ensures.recipe) in
    IfErr-weaker c.from_residual.result (Reports (tells c.recipe_at.result.now)) _ (λ e h. subst (λ r. Reports (tells r) e) lent h) (search rules)

pub returns-clause-kept : goal.returns-clause-kept
returns-clause-kept g c =
    let it = c.args.completing.now in
    let rs = recipes_in c.args.kept.now in
    let lent : c.recipe_at.result.now ≡ recipe_at rs c.args.place = sym (get_or_from_slice_get rs c.args.place c.recipe_at.result.now no_recipe c.recipe_at.ensures.recipe) in
    subst (λ r. Keeps (BreaksOne (g.S.Syntax.answers it.meanings.syntax.now) (g.E.ConstantEvaluation.answers it.among.evaluation.now) it r)) lent c.in_ok-recipe.ensures.kept

pub returns-clause-made : goal.returns-clause-made
returns-clause-made g c =
    let it = c.args.completing.now in
    let by = completed_by (g.S.Syntax.answers it.meanings.syntax.now) (g.E.ConstantEvaluation.answers it.among.evaluation.now) it in
    let numbers = get_or it.references.now c.args.place [] in
    let lists = it.meanings.settings.now.lists in
    let rs = recipes_in c.args.kept.now in
    let r = recipe_at rs c.args.place in
    let path = c.args.module_path.now in
    let joined = c.in_ok-recipe_path.ensures in
    let lent : c.recipe_at.result.now ≡ r = sym (get_or_from_slice_get rs c.args.place c.recipe_at.result.now no_recipe c.recipe_at.ensures.recipe) in
    let made : c.in_ok-recipe.recipe ≡ with_needed (by r) numbers = c.in_ok-recipe.ensures.made ∙ ap (λ x. with_needed (by x) numbers) lent in
    let given : c.as_slice-dependencies.result.now ≡ (by r).dependencies = c.as_slice-dependencies.ensures ∙ ap (λ (x : Recipe UnresolvedDependency). x.dependencies) made in
    let links : c.in_ok-links.links ≡ links_of lists rs c.args.recipes.now (by r).dependencies c.args.row.now = c.in_ok-links.ensures ∙ ap (λ ds. links_of lists rs c.args.recipes.now ds c.args.row.now) given in
    let name : c.lexeme.result.now ≡ name_of_recipe r = c.lexeme.ensures ∙ ap (λ (x : Recipe UnresolvedDependency). text_of_name x.name) made in
    let at : c.in_ok-clone.field-0 ≡ path = c.in_ok-clone.ensures.cases in
    let to : c.in_ok-recipe_path.recipe_path ≡ path_to path (name_of_recipe r) = λ i. record { components = (joined.0 ∙ ap (λ n. path.components ++ n ∷ []) name) i; spaced = joined.1 i } in
    c.resolved.ensures ∙ (λ i. resolved (made i) ((c.links-2.view_is ∙ links) i) (at i) (to i))
