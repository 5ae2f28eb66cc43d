use Rattle.std.proofs.Common.{arith, ℕ, ◌<◌, [], length, slice_index, ◌∙◌, ap}
use Rattle.std.proofs.lemmas.Grind.{common_steps}
use Rattle.std.proofs.lemmas.List.Elements.{Contains-get_or}
use Rattle.just_graph.proofs.Targets.{row_inside}
use Rattle.just_graph_order.proofs.Finishes.{seen_same, seen_stays}
use Rattle.just_graph_order.proofs.Frames.{begun, top_inside, next_inside, went_down, went_up, fewer_down}
use Rattle.just_graph_order.proofs.finish_order.finish_from.Goals as goal

pub loop-frame-init : goal.loop-frame-init
loop-frame-init c =
    let root : ℕ = slice_index c.args.roots.now c.args.place in
    let inside : root < length c.args.edges.now = c.requires.roots c.args.place 0 c.requires.place in
    let in_seen : root < length c.args.seen.now.items = omega (arith, c.requires.finishing.seen_len) in
    record {
      finishing =
          begun c.args.edges.now c.args.roots.now c.args.seen.now.items c.args.order.now.items root c.push.new.self.items c.requires.finishing inside c.requires.is_new (Contains-get_or c.args.roots.now c.args.place 0 c.requires.place)
          (rw (c.new-path.ensures.items, c.start.ensures) at c.in_ok-push.ensures.items);
      root_seen = seen_same c.args.seen.now.items root in_seen;
      kept = λ a h. h;
    }

pub row-targets-requires : goal.row-targets-requires
row-targets-requires c = top_inside _ _ _ _ _ _ _ [] 0 c.loop-frame.invariant.finishing c.in-Some.ensures.items

pub next_unseen-passed-requires : goal.next_unseen-passed-requires
next_unseen-passed-requires c =
    row_inside c.args.edges.now c.in-Some.frame.node _ _ c.requires.graph (top_inside _ _ _ _ _ _ _ [] 0 c.loop-frame.invariant.finishing c.in-Some.ensures.items) c.row-targets.ensures (ap length c.as_slice.ensures.value ∙ c.loop-frame.invariant.finishing.seen_len)

pub index_mut-requires-then-passed-targets : goal.index_mut-requires-then-passed-targets
index_mut-requires-then-passed-targets c =
    let passed = rw c.as_slice.ensures.value at c.next_unseen-passed.ensures.passed in
    let inside = next_inside _ _ _ _ _ _ _ _ _ c.loop-frame.invariant.finishing c.in-Some.ensures.items c.row-targets.ensures passed c.requires.graph c.if-passed-targets.true in
    let seen_len = c.loop-frame.invariant.finishing.seen_len in
    grind (arith, common_steps)

pub loop-frame-smaller-then-passed-targets : goal.loop-frame-smaller-then-passed-targets
loop-frame-smaller-then-passed-targets c =
    let passed = rw c.as_slice.ensures.value at c.next_unseen-passed.ensures.passed in
    let f = c.loop-frame.invariant.finishing in
    let inside = next_inside _ _ _ _ _ _ _ _ _ f c.in-Some.ensures.items c.row-targets.ensures passed c.requires.graph c.if-passed-targets.true in
    let in_seen : slice_index c.row-targets.result.now c.next_unseen-passed.result < length c.loop-frame.seen.items = omega (arith, inside, f.seen_len) in
    fewer_down _ _ _ _ _ _ _ _ _ in_seen (rw c.as_slice.ensures.value at (c.next_unseen-passed.ensures.found c.if-passed-targets.true)) c.in-Some.ensures.items c.in_ok-push-2.ensures.items c.in_ok-push-3.ensures.items

pub loop-frame-preserved-then-passed-targets : goal.loop-frame-preserved-then-passed-targets
loop-frame-preserved-then-passed-targets c =
    let passed = rw c.as_slice.ensures.value at c.next_unseen-passed.ensures.passed in
    let f = c.loop-frame.invariant.finishing in
    let inside = next_inside _ _ _ _ _ _ _ _ _ f c.in-Some.ensures.items c.row-targets.ensures passed c.requires.graph c.if-passed-targets.true in
    let in_seen : slice_index c.row-targets.result.now c.next_unseen-passed.result < length c.loop-frame.seen.items = omega (arith, inside, f.seen_len) in
    record {
      finishing =
          went_down _ _ _ _ _ _ _ _ _ f c.in-Some.ensures.items c.row-targets.ensures passed c.requires.graph c.if-passed-targets.true _ _ c.in_ok-push-2.ensures.items (rw c.start-then-passed-targets.ensures at c.in_ok-push-3.ensures.items)
          (rw c.as_slice.ensures.value at (c.next_unseen-passed.ensures.found c.if-passed-targets.true));
      root_seen = seen_stays _ _ in_seen _ c.loop-frame.invariant.root_seen;
      kept = λ a h. seen_stays _ _ in_seen a (c.loop-frame.invariant.kept a h);
    }

pub loop-frame-preserved : goal.loop-frame-preserved
loop-frame-preserved c = let passed = rw c.as_slice.ensures.value at c.next_unseen-passed.ensures.passed in record {
  finishing =
      went_up _ _ _ _ _ _ _ _ _ c.loop-frame.invariant.finishing c.in-Some.ensures.items c.row-targets.ensures passed _ (omega arith) c.in_ok-push-4.ensures.items;
  root_seen = c.loop-frame.invariant.root_seen;
  kept = c.loop-frame.invariant.kept;
}
