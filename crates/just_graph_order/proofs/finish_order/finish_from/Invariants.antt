use Rattle.std.proofs.Common.{◌≡◌, ℕ, ◌+◌, true, length, slice_index}
use Rattle.just_graph.specs.Found.{is_seen, unseen}
use Rattle.just_graph_order.specs.loops.Finished.{Finishing}
use Rattle.just_graph_order.specs.loops.Path.{nodes, frame_counts}
use Rattle.just_graph_order.proofs.finish_order.finish_from.Given as goal

abbrev pub invariant-loop-frame : goal.invariant-loop-frame
invariant-loop-frame l = record {
  finishing : Finishing l.edges l.roots l.seen.items (nodes l.path.items) (frame_counts l.path.items) l.order.items;
  root_seen : is_seen l.seen.items (slice_index l.roots l.place) ≡ true;
  kept : (a : ℕ) → is_seen l.initial.seen.items a ≡ true → is_seen l.seen.items a ≡ true;
}

abbrev pub decreases-loop-frame : goal.decreases-loop-frame
decreases-loop-frame l = unseen l.seen.items + unseen l.seen.items + length l.path.items
