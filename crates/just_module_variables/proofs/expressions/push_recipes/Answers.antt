use Rattle.std.proofs.Common.{◌≡◌, ◌++◌, arith, length, sym}
use Rattle.std.specs.List.{flat_map}
use Rattle.std.proofs.lemmas.Grind.{common_steps}
use Rattle.just_module_contents.specs.Constants.{recipe_expressions}
use Rattle.just_module_contents.specs.Definitions.{recipes_in}
use Rattle.just_module_contents.specs.Recipes.{lent}
use Rattle.just_module_contents.proofs.RecipePlaces.{length-lent}
use Rattle.just_module_variables.proofs.Walking.{all_given, one_given}
use Rattle.just_module_variables.proofs.expressions.push_recipes.Goals as goal

pub loop-place-preserved : goal.loop-place-preserved
loop-place-preserved c =
    let rs = recipes_in c.args.definitions.now in
    one_given recipe_expressions (lent c.args.found.now.items ++ flat_map recipe_expressions rs) rs c.loop-place.place c.recipe_at.result.now
    (lent c.loop-place.found.items) (lent c.push_recipe.new.found.items) c.loop-place.invariant c.recipe_at.ensures.recipe c.in_ok-push_recipe.ensures

pub returns : goal.returns
returns c =
    let rs = recipes_in c.args.definitions.now in
    let long : length rs ≡ length c.args.definitions.now.recipes.items = length-lent c.args.definitions.now.recipes.items in
    let count : c.len-place-end.result ≡ length c.args.definitions.now.recipes.items = grind (arith, common_steps) in
    sym (all_given recipe_expressions (lent c.args.found.now.items ++ flat_map recipe_expressions rs) rs c.loop-place.place (lent c.loop-place.found.items) c.loop-place.invariant (omega arith))
