use Rattle.std.proofs.Common.{◌<◌, ap, arith, get_or, length}
use Rattle.std.proofs.lemmas.List.{get_or_default}
use Rattle.just_recipe.specs.declared.dependency.UnresolvedDependency.{UnresolvedDependency}
use Rattle.just_recipe.specs.declared.recipe.Recipe.{Recipe}
use Rattle.just_module_contents.specs.Definitions.{recipes_in}
use Rattle.just_module_contents.specs.Recipes.{recipe_at}
use Rattle.just_module_recipes.specs.loops.Rows.{IsTargetOf, around_by}
use Rattle.just_module_recipes.proofs.Finding.{no_dependency, target_of_next}
use Rattle.just_module_recipes.proofs.Zipped.{zip_more}
use Rattle.just_module_recipes.proofs.targets.row.Goals as goal

pub loop-at-preserved : goal.loop-at-preserved
loop-at-preserved c =
    let rs = recipes_in c.args.kept.now in
    let ds = (recipe_at rs c.args.place).dependencies in
    let same = ap (λ (r : Recipe UnresolvedDependency). length r.dependencies) c.recipe_at.ensures.there in
    let within : c.loop-at.at < length ds = omega (arith, c.loop-at-test.true, c.len-at-end.ensures, same) in
    zip_more (IsTargetOf rs (around_by c.args.it.now)) ds c.loop-at.row c.push.new.self c.loop-at.at (get_or ds c.loop-at.at no_dependency) c.in_ok-lead.field-0 within (get_or_default ds c.loop-at.at no_dependency (get_or ds c.loop-at.at no_dependency) within)
    c.loop-at.invariant (target_of_next rs (around_by c.args.it.now) ds c.loop-at.at c.in_ok-lead.field-0 no_dependency within c.in_ok-lead.ensures.target) c.in_ok-push.ensures.ok
