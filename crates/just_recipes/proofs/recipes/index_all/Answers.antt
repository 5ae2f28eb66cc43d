use Rattle.std.proofs.Common.{nat_eq}
use Rattle.std.specs.HashMap.{get}
use Rattle.just_recipes.proofs.RecipeLemmas.{numbers_apart, placed_more, others_kept}
use Rattle.just_recipes.proofs.recipes.index_all.Goals as goal

pub loop-place-preserved : goal.loop-place-preserved
loop-place-preserved c = record {
  placed = placed_more c.args.recipes.now c.args.start c.loop-place.place c.index-recipes-place.result (get nat_eq c.loop-place.places) (get nat_eq c.insert.new.self) c.requires.once c.loop-place-test.true c.index-recipes-place.is c.loop-place.invariant.placed
      c.in_ok-insert.ensures.updates.1 (λ n ne. c.in_ok-insert.ensures.updates.2 n (numbers_apart c.index-recipes-place.result.number.0 n ne));
  kept = others_kept c.args.recipes.now c.loop-place.place c.index-recipes-place.result (get nat_eq c.args.places.now) (get nat_eq c.loop-place.places) (get nat_eq c.insert.new.self) c.loop-place-test.true c.index-recipes-place.is c.loop-place.invariant.kept
      (λ n ne. c.in_ok-insert.ensures.updates.2 n (numbers_apart c.index-recipes-place.result.number.0 n ne));
}
