use Rattle.std.proofs.Common.{◌≡◌, ℕ, ◌+◌, ◌-◌, ◌<◌, length, slice_index}
use Rattle.just_graph.specs.Found.{unseen}
use Rattle.just_graph.specs.Graph.{targets}
use Rattle.just_graph_order.proofs.Closing.{Closing}
use Rattle.just_graph_order.proofs.Coming.{Coming}
use Rattle.just_graph_order.proofs.circles.circle_at.Given as goal

abbrev pub invariant-loop-next : goal.invariant-loop-next
invariant-loop-next l = record {
  closing : Closing l.edges (targets l.edges l.start) l.seen.items l.found.items l.next;
  coming : Coming l.edges l.start l.found.items l.came.items;
  not_start : (k : ℕ) → k < l.next → slice_index l.found.items k ≡ l.start → ⊥;
}

abbrev pub decreases-loop-next : goal.decreases-loop-next
decreases-loop-next l = unseen l.seen.items + length l.found.items - l.next
