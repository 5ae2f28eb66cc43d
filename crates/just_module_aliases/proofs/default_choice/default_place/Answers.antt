use Rattle.std.proofs.Common.{◌≡◌, length, sym, subst, arith}
use Rattle.std.specs.List.{Contains}
use Rattle.just_recipe.specs.Recipes.{numbers}
use Rattle.just_module_contents.specs.Definitions.{recipes_in}
use Rattle.just_module_contents.proofs.RecipePlaces.{number_read}
use Rattle.just_module_contents.specs.Defaults.{IsDefaultPlace}
use Rattle.just_module_aliases.proofs.Defaults.{is_not, is_resolved, passes_by, takes_better}
use Rattle.just_module_aliases.proofs.default_choice.default_place.Goals as goal

pub loop-place-preserved-then-is_none : goal.loop-place-preserved-then-is_none
loop-place-preserved-then-is_none c =
    let rs = recipes_in c.args.own.now in
    let read = number_read rs c.loop-place.place c.recipe_at.result.now c.recipe_at.ensures.recipe in
    let out = is_not c.args.resolved.now c.recipe_at.result.now.number.0 c.get.result c.get.ensures c.if-is_none.ensures in
    passes_by (numbers c.args.resolved.now) rs c.loop-place.place c.loop-place.best (λ there. out (subst (Contains (numbers c.args.resolved.now)) read there)) c.loop-place.invariant

pub loop-place-preserved : goal.loop-place-preserved
loop-place-preserved c =
    let rs = recipes_in c.args.own.now in
    let read = number_read rs c.loop-place.place c.recipe_at.result.now c.recipe_at.ensures.recipe in
    let here = is_resolved c.args.resolved.now c.recipe_at.result.now.number.0 c.get.result c.get.ensures c.if-is_none.ensures in
    takes_better (numbers c.args.resolved.now) rs c.loop-place.place c.loop-place.best c.better.result (subst (Contains (numbers c.args.resolved.now)) (sym read) here) c.better.ensures c.loop-place.invariant

pub returns : goal.returns
returns c =
    let count : c.loop-place.place ≡ length c.args.own.now.recipes.items = omega (arith, c.loop-place.auto.place-end, c.loop-place-test.false, c.len-place-end.ensures) in
    subst (λ n. IsDefaultPlace (numbers c.args.resolved.now) (recipes_in c.args.own.now) n c.loop-place.best) count c.loop-place.invariant
