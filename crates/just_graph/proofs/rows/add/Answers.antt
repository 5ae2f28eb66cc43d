use Rattle.std.proofs.Common.{arith, ◌∙◌, ap, ◌<◌, slice_index, length}
use Rattle.just_graph.proofs.Adding.{same_added, added_none, added_old, added_new, is_read}
use Rattle.just_graph.proofs.rows.add.Goals as goal
use Rattle.just_graph.proofs.rows.add.Goals.{then-not-index+in_ok-push, else-not-index}

pub loop-node-init : goal.loop-node-init
loop-node-init c = added_none _ _ _ c.requires.listing

pub loop-node-preserved : goal.loop-node-preserved
loop-node-preserved c =
    let s = c.loop-node.invariant in
    let in_seen : slice_index c.args.row.now c.loop-node.node-index < length c.args.seen.now.items = c.requires.row c.loop-node.node-index 0 (omega arith) in
    let in_seen' : slice_index c.args.row.now c.loop-node.node-index < length c.loop-node.seen.items = omega (arith, s.seen_len) in
    let read = is_read c.loop-node.seen.items _ c.index.result.now in_seen' c.index.ensures in
    elim c.if-not-index.branch [
      | then-not-index+in_ok-push w ↦
          same_added _ _ _ _ _ _ _ _ (ap (λ v. v.items) w.seen-is) (ap (λ v. v.items) w.found-is)
          (added_new c.args.row.now c.loop-node.node-index _ _ _ _ s _ c.loop-node-test.true in_seen (read ∙ w.if-not-index.true) w.in_ok-push.ensures.items)
      | else-not-index w ↦
          same_added _ _ _ _ _ _ _ _ (ap (λ v. v.items) w.seen-is) (ap (λ v. v.items) w.found-is)
          (added_old c.args.row.now c.loop-node.node-index _ _ _ _ s (read ∙ w.if-not-index.false))
    ]
