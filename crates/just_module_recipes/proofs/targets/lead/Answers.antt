use Rattle.std.proofs.Common.{◌≡◌, ◌<◌, ◌∙◌, List, ap, sym, length, arith}
use Rattle.std.specs.Str.{bytes_eq}
use Rattle.std.specs.HashMap.{get}
use Rattle.just_recipe.specs.declared.dependency.UnresolvedDependency.{UnresolvedDependency}
use Rattle.just_recipe.specs.declared.recipe.Recipe.{Recipe}
use Rattle.just_module_contents.specs.Definitions.{recipes_in}
use Rattle.just_module_contents.specs.Recipes.{recipe_at}
use Rattle.just_module_contents.proofs.RecipePlaces.{length-lent}
use Rattle.just_module_recipes.specs.loops.Rows.{around_by}
use Rattle.just_module_recipes.proofs.Finding.{is_lost, is_unknown, read_member, target_at}
use Rattle.just_module_recipes.proofs.targets.lead.Goals as goal

pub returns-in-Some-clause-target : goal.returns-in-Some-clause-target
returns-in-Some-clause-target c =
    let rs = recipes_in c.args.kept.now in
    let all : c.as_slice.result.now ≡ (recipe_at rs c.args.place).dependencies = c.as_slice.ensures ∙ ap (λ (r : Recipe UnresolvedDependency). r.dependencies) c.recipe_at-recipe.ensures.there in
    let within : c.args.at < length c.as_slice.result.now = omega (arith, c.requires.at, ap (λ (xs : List UnresolvedDependency). length xs) all) in
    target_at rs (around_by c.args.it.now) (get bytes_eq c.args.index.now) c.requires.index c.as_slice.result.now (recipe_at rs c.args.place).dependencies c.args.at c.index-as_slice-at.result c.in-Some.target
    all within c.index-as_slice-at.is (sym c.in_ok-target.ensures ∙ c.in-Some.is)

pub returns-in_ok-clone-in-None-clause-named : goal.returns-in_ok-clone-in-None-clause-named
returns-in_ok-clone-in-None-clause-named c =
    let rs = recipes_in c.args.kept.now in
    let long : length rs ≡ length c.args.kept.now.recipes.items = length-lent c.args.kept.now.recipes.items in
    let all : c.as_slice.result.now ≡ c.recipe_at-recipe.result.now.dependencies = c.as_slice.ensures in
    let same = ap (λ (r : Recipe UnresolvedDependency). length r.dependencies) c.recipe_at-recipe.ensures.there in
    let within : c.args.at < length c.as_slice.result.now = omega (arith, c.requires.at, same, ap (λ (xs : List UnresolvedDependency). length xs) all) in
    is_unknown rs (around_by c.args.it.now) c.args.place c.recipe_at-recipe.result.now c.index-as_slice-at.result c.new.result c.in_ok-clone-in-None.field-0 c.copied.result (omega (arith, long, c.requires.place)) c.recipe_at-recipe.ensures.there
    (read_member c.as_slice.result.now c.recipe_at-recipe.result.now.dependencies c.args.at c.index-as_slice-at.result all within c.index-as_slice-at.is)
    (c.new.ensures ∙ c.lexeme.ensures) c.in_ok-clone-in-None.ensures.cases c.copied.ensures
    (is_lost rs (around_by c.args.it.now) (get bytes_eq c.args.index.now) c.requires.index c.index-as_slice-at.result.recipe (sym c.in_ok-target.ensures ∙ c.in-None.is))
