use Rattle.std.proofs.Common.{◌≡◌, ◌<◌, ◌≤◌, ◌∙◌, List, ap, arith, get_or, length, subst, sym}
use Rattle.std.proofs.lemmas.List.{take_all}
use Rattle.std.specs.List.{All}
use Rattle.just_module_contents.proofs.RecipePlaces.{length-lent}
use Rattle.just_module_contents.specs.Definitions.{recipes_in}
use Rattle.just_module_contents.specs.Recipes.{recipe_at}
use Rattle.just_module_recipes.specs.loops.Making.{IsGiven}
use Rattle.just_module_recipes.specs.loops.Rows.{IsTargetOf, around_by}
use Rattle.just_module_recipes.proofs.Counted.{given_next}
use Rattle.just_module_recipes.proofs.Finding.{read_member}
use Rattle.just_module_recipes.proofs.Zipped.{zip_at, zip_length}
use Rattle.just_recipe.specs.declared.dependency.UnresolvedDependency.{UnresolvedDependency}
use Rattle.just_recipe.specs.declared.recipe.Recipe.{Recipe}
use Rattle.just_module_recipes.proofs.counts.check_dependencies.Goals as goal

pub offset_bounds-dependencies-at : goal.offset_bounds-dependencies-at
offset_bounds-dependencies-at c =
    let rs = recipes_in c.args.kept.now in
    let it = around_by c.args.it.now in
    let ds = (recipe_at rs c.args.place).dependencies in
    let all : c.as_slice-dependencies.result.now ≡ ds = c.as_slice-dependencies.ensures ∙ ap (λ (r : Recipe UnresolvedDependency). r.dependencies) c.recipe_at.ensures.there in
    let count : length c.args.row.now ≡ length ds = zip_length (IsTargetOf rs it) ds c.args.row.now c.requires.row in
    let many : length c.as_slice-dependencies.result.now ≡ length ds = ap (λ (xs : List UnresolvedDependency). length xs) all in
    let within : c.loop-at.at < length c.as_slice-dependencies.result.now = omega (arith, c.loop-at-test.true, count, many) in
    omega (arith, within)

pub bounds-dependencies-at : goal.bounds-dependencies-at
bounds-dependencies-at c =
    let rs = recipes_in c.args.kept.now in
    let it = around_by c.args.it.now in
    let ds = (recipe_at rs c.args.place).dependencies in
    let all : c.as_slice-dependencies.result.now ≡ ds = c.as_slice-dependencies.ensures ∙ ap (λ (r : Recipe UnresolvedDependency). r.dependencies) c.recipe_at.ensures.there in
    let count : length c.args.row.now ≡ length ds = zip_length (IsTargetOf rs it) ds c.args.row.now c.requires.row in
    let many : length c.as_slice-dependencies.result.now ≡ length ds = ap (λ (xs : List UnresolvedDependency). length xs) all in
    let within : c.loop-at.at < length c.as_slice-dependencies.result.now = omega (arith, c.loop-at-test.true, count, many) in
    within

pub check_dependency-requires-clause-target : goal.check_dependency-requires-clause-target
check_dependency-requires-clause-target c =
    let rs = recipes_in c.args.kept.now in
    let it = around_by c.args.it.now in
    let ds = (recipe_at rs c.args.place).dependencies in
    let all : c.as_slice-dependencies.result.now ≡ ds = c.as_slice-dependencies.ensures ∙ ap (λ (r : Recipe UnresolvedDependency). r.dependencies) c.recipe_at.ensures.there in
    let count : length c.args.row.now ≡ length ds = zip_length (IsTargetOf rs it) ds c.args.row.now c.requires.row in
    let many : length c.as_slice-dependencies.result.now ≡ length ds = ap (λ (xs : List UnresolvedDependency). length xs) all in
    let within : c.loop-at.at < length c.as_slice-dependencies.result.now = omega (arith, c.loop-at-test.true, count, many) in
    let d = c.index-dependencies-at.result in
    let read : d ≡ get_or ds c.loop-at.at d = c.index-dependencies-at.is ∙ ap (λ (xs : List UnresolvedDependency). get_or xs c.loop-at.at d) all in
    let t = c.index-row-at.result in
    let pair = zip_at (IsTargetOf rs it) ds c.args.row.now c.loop-at.at d t c.requires.row (omega (arith, within, many)) in
    subst (λ (x : UnresolvedDependency). IsTargetOf rs it x t) (sym read) (subst (IsTargetOf rs it (get_or ds c.loop-at.at d)) (sym c.index-row-at.is) pair)

pub check_dependency-requires-clause-stands : goal.check_dependency-requires-clause-stands
check_dependency-requires-clause-stands c =
    let rs = recipes_in c.args.kept.now in
    let it = around_by c.args.it.now in
    let ds = (recipe_at rs c.args.place).dependencies in
    let all : c.as_slice-dependencies.result.now ≡ ds = c.as_slice-dependencies.ensures ∙ ap (λ (r : Recipe UnresolvedDependency). r.dependencies) c.recipe_at.ensures.there in
    let count : length c.args.row.now ≡ length ds = zip_length (IsTargetOf rs it) ds c.args.row.now c.requires.row in
    let many : length c.as_slice-dependencies.result.now ≡ length ds = ap (λ (xs : List UnresolvedDependency). length xs) all in
    let within : c.loop-at.at < length c.as_slice-dependencies.result.now = omega (arith, c.loop-at-test.true, count, many) in
    let long : length rs ≡ length c.args.kept.now.recipes.items = length-lent c.args.kept.now.recipes.items in
    record {
      from = c.args.place;
      there = omega (arith, c.requires.place, long);
      depends = read_member c.as_slice-dependencies.result.now ds c.loop-at.at c.index-dependencies-at.result all within c.index-dependencies-at.is;
      stands = c.requires.stands;
    }

pub loop-at-preserved : goal.loop-at-preserved
loop-at-preserved c =
    let rs = recipes_in c.args.kept.now in
    let it = around_by c.args.it.now in
    let ds = (recipe_at rs c.args.place).dependencies in
    let all : c.as_slice-dependencies.result.now ≡ ds = c.as_slice-dependencies.ensures ∙ ap (λ (r : Recipe UnresolvedDependency). r.dependencies) c.recipe_at.ensures.there in
    let count : length c.args.row.now ≡ length ds = zip_length (IsTargetOf rs it) ds c.args.row.now c.requires.row in
    let many : length c.as_slice-dependencies.result.now ≡ length ds = ap (λ (xs : List UnresolvedDependency). length xs) all in
    let within : c.loop-at.at < length c.as_slice-dependencies.result.now = omega (arith, c.loop-at-test.true, count, many) in
    let d = c.index-dependencies-at.result in
    let read : d ≡ get_or ds c.loop-at.at d = c.index-dependencies-at.is ∙ ap (λ (xs : List UnresolvedDependency). get_or xs c.loop-at.at d) all in
    given_next c.args.settings.now.lists rs it ds c.loop-at.at d (omega (arith, within, many)) read c.loop-at.invariant c.in_ok-check_dependency.ensures.given

pub returns-clause-given : goal.returns-clause-given
returns-clause-given c =
    let rs = recipes_in c.args.kept.now in
    let it = around_by c.args.it.now in
    let ds = (recipe_at rs c.args.place).dependencies in
    let count : length c.args.row.now ≡ length ds = zip_length (IsTargetOf rs it) ds c.args.row.now c.requires.row in
    let done : length ds ≤ c.loop-at.at = omega (arith, c.loop-at-test.false, count) in
    subst (All (IsGiven c.args.settings.now.lists rs it)) (take_all c.loop-at.at ds done) c.loop-at.invariant
