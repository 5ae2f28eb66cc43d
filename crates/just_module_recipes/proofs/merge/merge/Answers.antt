use Rattle.std.proofs.Common.{◌≡◌, ◌<◌, ◌∙◌, [], length, get_or, sym, subst, ap}
use Rattle.std.proofs.lemmas.List.{get_or_default, length-set}
use Rattle.just_module_recipes.specs.loops.Rows.{SameMembers, gathered_paths}
use Rattle.just_module_recipes.proofs.Barred.{told_more, near_below}
use Rattle.just_module_recipes.proofs.merge.merge.Goals as goal

pub gather-requires : goal.gather-requires
gather-requires c =
    let place = get_or c.args.order.now c.loop-n.n 0 in
    let inside : place < length c.args.rows.now = c.requires.below c.loop-n.n c.loop-n-test.true in
    let read : c.index-rows-place.result ≡ get_or c.args.rows.now place [] = c.index-rows-place.is ∙ get_or_default c.args.rows.now place c.index-rows-place.result [] inside in
    let count : length c.as_slice-in-loop-n.result.now ≡ length c.args.rows.now = ap length c.as_slice-in-loop-n.ensures.value ∙ c.loop-n.invariant.0 in
    near_below c.args.rows.now c.args.order.now c.requires place (length c.as_slice-in-loop-n.result.now) (sym count) inside c.as_slice.result.now (c.as_slice.ensures ∙ read)

pub loop-n-preserved : goal.loop-n-preserved
loop-n-preserved c =
    let place = get_or c.args.order.now c.loop-n.n 0 in
    let inside : place < length c.args.rows.now = c.requires.below c.loop-n.n c.loop-n-test.true in
    let read : c.index-rows-place.result ≡ get_or c.args.rows.now place [] = c.index-rows-place.is ∙ get_or_default c.args.rows.now place c.index-rows-place.result [] inside in
    let same : SameMembers c.in_ok-set.set.keys (gathered_paths c.loop-n.sets.items (get_or c.args.rows.now place [])) =
    subst (λ xs. SameMembers c.in_ok-set.set.keys (gathered_paths c.loop-n.sets.items xs)) (c.as_slice.ensures ∙ read) (subst (λ xs. SameMembers c.in_ok-set.set.keys (gathered_paths xs c.as_slice.result.now)) c.as_slice-in-loop-n.ensures.value c.in_ok-set.ensures) in (
      length-set c.loop-n.sets.items place c.in_ok-set.set ∙ c.loop-n.invariant.0,
      told_more c.args.rows.now c.args.order.now c.requires c.loop-n.sets.items c.loop-n.n c.in_ok-set.set c.loop-n.invariant.0 c.loop-n-test.true c.loop-n.invariant.1 same,
    )
