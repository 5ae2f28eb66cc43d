use Rattle.std.proofs.Common.{◌≡◌, ℕ, ◌<◌, true, [], slice_index}
use Rattle.just_graph.specs.Found.{is_seen}
use Rattle.just_graph_order.specs.loops.Finished.{Finishing}
use Rattle.just_graph_order.proofs.finish_order.finish.Given as goal

abbrev pub invariant-loop-place : goal.invariant-loop-place
invariant-loop-place l = record {
  finishing : Finishing l.edges l.roots l.seen.items [] [] l.order.items;
  roots_seen : (k : ℕ) → k < l.place → is_seen l.seen.items (slice_index l.roots k) ≡ true;
}
