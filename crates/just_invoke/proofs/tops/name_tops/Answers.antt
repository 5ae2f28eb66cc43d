use Rattle.std.proofs.Common.{◌≡◌, ◌<◌, ◌++◌, ◌∷◌, [], ◌∙◌, sym, ap, subst, false, length, map, arith, rules}
use Rattle.std.proofs.lemmas.List.{take_all}
use Rattle.std.proofs.lemmas.Simd.{map-map}
use Rattle.just_tasks.specs.declared.task.Task.{Task}
use Rattle.just_recipes.proofs.Places.{found-number, map-more, all-more}
use Rattle.just_invocations.specs.declared.invocation.Invocation.{Invocation}
use Rattle.just_justfile.specs.Closed.{IsHeld}
use Rattle.just_invoke.specs.Outcome.{top}
use Rattle.just_invocations.specs.Split.{invoked_of}
use Rattle.just_invoke.proofs.Namings.{placed-some, placed}
use Rattle.just_invoke.proofs.tops.name_tops.Goals as goal

pub unwrap-recipe-requires : goal.unwrap-recipe-requires
unwrap-recipe-requires c =
    let here = subst (λ (i : Invocation). IsHeld c.args.recipes.now i.recipe.now) (sym c.invocation-item.is)
    (c.requires c.loop-invocation.invocation-index c.invocation-item.result c.loop-invocation-test.true) in
    placed-some c.args.recipes.now c.invocation-item.result.recipe.now.number.0 c.place_of.result (found-number c.args.recipes.now c.invocation-item.result.recipe.now.number.0 c.invocation-item.result.recipe.now here) c.place_of.ensures.missing

pub loop-invocation-preserved : goal.loop-invocation-preserved
loop-invocation-preserved c =
    let rs = c.args.recipes.now in
    let n = c.invocation-item.result.recipe.now.number.0 in
    let t : Task = record { pair = record { recipe = c.unwrap-recipe.result; groups = c.in_ok-groups.groups }; dependency = false } in
    let pushed : c.push.new.self.items ≡ c.loop-invocation.tasks.items ++ t ∷ [] = search rules in
    let groups = c.in_ok-groups.ensures ∙ ap (map (λ words. map (λ word. word.now) words.items)) c.deref.ensures.value in
    let place = placed rs n c.place_of.result c.unwrap-recipe.result (search rules) c.place_of.ensures.found c.place_of.ensures.first in
    let named : t ≡ top rs (invoked_of c.invocation-item.result) = λ i. record { pair = record { recipe = place.1 i; groups = groups i }; dependency = false } in
    record {
      named = map-more (λ i. top rs (invoked_of i)) c.loop-invocation.invocation-index c.args.invocations.now c.invocation-item.result c.loop-invocation.tasks.items c.push.new.self.items t c.loop-invocation-test.true c.invocation-item.is c.loop-invocation.invariant.named pushed named;
      below = all-more (λ (u : Task). u.pair.recipe < length rs) c.loop-invocation.tasks.items c.push.new.self.items t c.loop-invocation.invariant.below pushed place.0;
    }

pub returns-clause-named : goal.returns-clause-named
returns-clause-named c = c.loop-invocation.invariant.named
    ∙ ap (map (λ i. top c.args.recipes.now (invoked_of i))) (take_all c.loop-invocation.invocation-index c.args.invocations.now (omega arith))
    ∙ sym (map-map (top c.args.recipes.now) invoked_of c.args.invocations.now)
