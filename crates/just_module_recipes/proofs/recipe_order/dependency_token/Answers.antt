use Rattle.std.proofs.Common.{◌≡◌, ◌<◌, ◌∙◌, List, ap, sym, subst, arith, length, get_or}
use Rattle.std.proofs.lemmas.List.{get_or_default}
use Rattle.just_module_contents.specs.Definitions.{recipes_in}
use Rattle.just_module_contents.specs.Recipes.{recipe_at}
use Rattle.just_module_recipes.specs.Links.{IsNameOf}
use Rattle.just_module_recipes.specs.loops.Rows.{IsTargetOf}
use Rattle.just_module_recipes.specs.declared.targets.Target.TheVariants.{Near}
use Rattle.just_module_recipes.proofs.Finding.{path_there, read_member}
use Rattle.just_module_recipes.proofs.Zipped.{zip_at, zip_length}
use Rattle.just_recipe.specs.declared.dependency.UnresolvedDependency.{UnresolvedDependency}
use Rattle.just_recipe.specs.declared.recipe.Recipe.{Recipe}
use Rattle.just_module_recipes.proofs.recipe_order.dependency_token.Goals as goal

pub offset_bounds-dependencies-at : goal.offset_bounds-dependencies-at
offset_bounds-dependencies-at c =
    let rs = recipes_in c.args.kept.now in
    let all : c.as_slice-dependencies.result.now ≡ (recipe_at rs c.args.dependent).dependencies = c.as_slice-dependencies.ensures ∙ ap (λ (r : Recipe UnresolvedDependency). r.dependencies) c.recipe_at.ensures.there in
    let count : length c.args.row.now ≡ length (recipe_at rs c.args.dependent).dependencies = zip_length (IsTargetOf rs c.requires.row.0) (recipe_at rs c.args.dependent).dependencies c.args.row.now c.requires.row.1 in
    let many : length c.as_slice-dependencies.result.now ≡ length (recipe_at rs c.args.dependent).dependencies = ap (λ (xs : List UnresolvedDependency). length xs) all in
    let within : c.loop-at.at < length c.as_slice-dependencies.result.now = omega (arith, c.loop-at-test.true, count, many) in
    omega (arith, within)

pub bounds-dependencies-at : goal.bounds-dependencies-at
bounds-dependencies-at c =
    let rs = recipes_in c.args.kept.now in
    let all : c.as_slice-dependencies.result.now ≡ (recipe_at rs c.args.dependent).dependencies = c.as_slice-dependencies.ensures ∙ ap (λ (r : Recipe UnresolvedDependency). r.dependencies) c.recipe_at.ensures.there in
    let count : length c.args.row.now ≡ length (recipe_at rs c.args.dependent).dependencies = zip_length (IsTargetOf rs c.requires.row.0) (recipe_at rs c.args.dependent).dependencies c.args.row.now c.requires.row.1 in
    let many : length c.as_slice-dependencies.result.now ≡ length (recipe_at rs c.args.dependent).dependencies = ap (λ (xs : List UnresolvedDependency). length xs) all in
    let within : c.loop-at.at < length c.as_slice-dependencies.result.now = omega (arith, c.loop-at-test.true, count, many) in
    within

pub returns-then-is_near : goal.returns-then-is_near
returns-then-is_near c =
    let rs = recipes_in c.args.kept.now in
    let all : c.as_slice-dependencies.result.now ≡ (recipe_at rs c.args.dependent).dependencies = c.as_slice-dependencies.ensures ∙ ap (λ (r : Recipe UnresolvedDependency). r.dependencies) c.recipe_at.ensures.there in
    let count : length c.args.row.now ≡ length (recipe_at rs c.args.dependent).dependencies = zip_length (IsTargetOf rs c.requires.row.0) (recipe_at rs c.args.dependent).dependencies c.args.row.now c.requires.row.1 in
    let many : length c.as_slice-dependencies.result.now ≡ length (recipe_at rs c.args.dependent).dependencies = ap (λ (xs : List UnresolvedDependency). length xs) all in
    let within : c.loop-at.at < length c.as_slice-dependencies.result.now = omega (arith, c.loop-at-test.true, count, many) in
    let d = c.index-dependencies-at.result in
    let near : c.index-row-at.result ≡ Near c.args.place = c.is_near.ensures.0 c.if-is_near.true in
    let at = zip_at (IsTargetOf rs c.requires.row.0) (recipe_at rs c.args.dependent).dependencies c.args.row.now c.loop-at.at d (Near c.args.place) c.requires.row.1 (omega (arith, within, many)) in
    let read : d ≡ get_or (recipe_at rs c.args.dependent).dependencies c.loop-at.at d = c.index-dependencies-at.is ∙ ap (λ (xs : List UnresolvedDependency). get_or xs c.loop-at.at d) all in
    let target : get_or c.args.row.now c.loop-at.at (Near c.args.place) ≡ Near c.args.place = get_or_default c.args.row.now c.loop-at.at (Near c.args.place) c.index-row-at.result c.loop-at-test.true ∙ (sym c.index-row-at.is ∙ near) in
    let names : IsNameOf rs d.recipe c.args.place = subst (λ (x : UnresolvedDependency). IsTargetOf rs c.requires.row.0 x (Near c.args.place)) (sym read) (subst (IsTargetOf rs c.requires.row.0 (get_or (recipe_at rs c.args.dependent).dependencies c.loop-at.at d)) target at) in
    record {
      path = d.recipe;
      depends = path_there rs c.requires.row.0 (recipe_at rs c.args.dependent) d (read_member c.as_slice-dependencies.result.now (recipe_at rs c.args.dependent).dependencies c.loop-at.at d all within c.index-dependencies-at.is);
      names = names.named;
      token_is = c.copied.ensures ∙ ap (λ (x : UnresolvedDependency). x.recipe.last.token) (sym c.index-dependencies-at.is);
    }
