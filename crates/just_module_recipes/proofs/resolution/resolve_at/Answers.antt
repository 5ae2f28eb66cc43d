use Rattle.std.proofs.Common.{◌≡◌, ◌∙◌, [], ap, arith, get_or, length, rules, subst, sym}
use Rattle.std.proofs.lemmas.Grind.{common_steps}
use Rattle.std.proofs.lemmas.List.{nil_from_length}
use Rattle.std.proofs.lemmas.Result.{IfErr-weaker}
use Rattle.just_errors.proofs.Lifts.{reports_by}
use Rattle.just_errors.specs.Causes.{Reports}
use Rattle.just_module_contents.specs.Definitions.{recipes_in}
use Rattle.just_module_contents.specs.Recipes.{recipe_at}
use Rattle.just_module_recipes.proofs.Made.{needs_made}
use Rattle.just_recipe.specs.Recipes.{IsNew}
use Rattle.just_recipe.specs.declared.dependency.Dependency.{Dependency}
use Rattle.just_recipe.specs.declared.recipe.Recipe.{Recipe}
use Rattle.just_module_recipes.specs.Completed.{TellsOne, completed_by}
use Rattle.just_module_recipes.proofs.Completed.{as_many, is_completing}
use Rattle.just_module_recipes.proofs.resolution.resolve_at.Goals as goal

pub push-requires-clause-is_new : goal.push-requires-clause-is_new
push-requires-clause-is_new g c =
    let zero : length c.args.set.now.keys ≡ 0 = grind (arith, common_steps) in
    let number = ap (λ (r : Recipe Dependency). r.number.0) c.in_ok-resolved.ensures.made in
    subst (IsNew c.args.recipes.now) (sym number) (c.requires.is_new (nil_from_length c.args.set.now.keys zero))

pub push-requires-clause-there : goal.push-requires-clause-there
push-requires-clause-there g c =
    let zero : length c.args.set.now.keys ≡ 0 = grind (arith, common_steps) in
    let it = c.args.completing.now in
    let answers = g.S.Syntax.answers it.meanings.syntax.now in
    let evaluator = g.E.ConstantEvaluation.answers it.among.evaluation.now in
    let rs = recipes_in c.args.kept.now in
    let r = recipe_at rs c.args.place in
    needs_made (completed_by answers evaluator it) it.references.now it.meanings.settings.now.lists rs c.args.recipes.now c.args.module_path.now r (get_or it.references.now c.args.place []) c.args.row.now c.in_ok-resolved.resolved c.in_ok-resolved.ensures.made
    (c.requires.count ∙ sym (as_many (completed_by answers evaluator it) (is_completing answers evaluator it) r)) (c.requires.numbers (nil_from_length c.args.set.now.keys zero))

pub returns-in_err-resolved-clause-named : goal.returns-in_err-resolved-clause-named
returns-in_err-resolved-clause-named g c =
    let zero : length c.args.set.now.keys ≡ 0 = grind (arith, common_steps) in
    let empty : c.args.set.now.keys ≡ [] = nil_from_length c.args.set.now.keys zero in
    let it = c.args.completing.now in
    let tells = TellsOne (g.S.Syntax.answers it.meanings.syntax.now) (g.E.ConstantEvaluation.answers it.among.evaluation.now) it (recipe_at (recipes_in c.args.kept.now) c.args.place) in
    IfErr-weaker c.from_residual.result (Reports tells) _ (λ e h. reports_by tells (λ x. (c.args.set.now.keys ≡ []) × tells x) (λ x k. (empty, k)) e h) (search rules)
