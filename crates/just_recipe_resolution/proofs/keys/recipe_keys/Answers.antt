use Rattle.std.proofs.Common.{◌≡◌, ◌∙◌, ap, arith, length}
use Rattle.std.proofs.lemmas.List.{take_all}
use Rattle.just_recipe.specs.declared.dependency.UnresolvedDependency.{UnresolvedDependency}
use Rattle.just_recipe.specs.declared.recipe.Recipe.{Recipe}
use Rattle.just_module_contents.specs.Definitions.{recipes_in}
use Rattle.just_module_contents.proofs.RecipePlaces.{length-lent}
use Rattle.just_compiled.specs.Analysis.{recipe_table}
use Rattle.just_compiled.proofs.RecipeKeys.{keys_next}
use Rattle.just_recipe_resolution.proofs.keys.recipe_keys.Goals as goal

pub loop-place-preserved : goal.loop-place-preserved
loop-place-preserved c =
    let rs = recipes_in c.args.definitions.now in
    let long : length rs ≡ length c.args.definitions.now.recipes.items = length-lent c.args.definitions.now.recipes.items in
    let there = c.recipe_at-recipe.ensures.there in
    keys_next rs c.loop-place.place (record { name = c.copied.result; number = c.recipe_at-recipe.result.now.number }) c.loop-place.keys c.insert.new.self (omega (arith, long, c.loop-place-test.true)) c.loop-place.invariant
    (λ i. record { name = (c.copied.ensures ∙ ap (λ (r : Recipe UnresolvedDependency). r.name) there) i; number = (there i).number }) c.in_ok-insert.ensures.new

pub returns : goal.returns
returns c =
    let rs = recipes_in c.args.definitions.now in
    let long : length rs ≡ length c.args.definitions.now.recipes.items = length-lent c.args.definitions.now.recipes.items in
    c.loop-place.invariant ∙ ap recipe_table (take_all c.loop-place.place rs (omega (arith, long, c.loop-place-test.false)))
