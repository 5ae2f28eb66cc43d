use Rattle.std.proofs.Common.{◌≡◌, ◌<◌, ◌∙◌, ap, length, arith}
use Rattle.std.proofs.lemmas.List.{take_all}
use Rattle.std.proofs.lemmas.Grind.{common_steps}
use Rattle.just_module_contents.specs.Recipes.{names_of}
use Rattle.just_module_contents.specs.Definitions.{recipes_in}
use Rattle.just_module_contents.proofs.RecipePlaces.{length-lent, names_more}
use Rattle.just_module_recipes.proofs.index.recipe_names.Goals as goal

pub loop-place-preserved : goal.loop-place-preserved
loop-place-preserved c =
    let long : length (recipes_in c.args.definitions.now) ≡ length c.args.definitions.now.recipes.items = length-lent c.args.definitions.now.recipes.items in
    let count : c.len-place-end.result ≡ length c.args.definitions.now.recipes.items = grind (arith, common_steps) in
    let inside : c.loop-place.place < length (recipes_in c.args.definitions.now) = omega arith in
    names_more (recipes_in c.args.definitions.now) c.loop-place.names.items c.push.new.self.items c.loop-place.place c.new.result c.recipe_at.result.now c.loop-place.invariant inside c.recipe_at.ensures.there
    (c.new.ensures ∙ c.lexeme.ensures) c.in_ok-push.ensures.items

pub returns : goal.returns
returns c =
    let long : length (recipes_in c.args.definitions.now) ≡ length c.args.definitions.now.recipes.items = length-lent c.args.definitions.now.recipes.items in
    let count : c.len-place-end.result ≡ length c.args.definitions.now.recipes.items = grind (arith, common_steps) in
    c.loop-place.invariant ∙ ap names_of (take_all c.loop-place.place (recipes_in c.args.definitions.now) (omega arith))
