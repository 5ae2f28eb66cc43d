use Rattle.std.proofs.Common.{◌≡◌, ℕ, ◌<◌, ◌≤◌, true, slice_index}
use Rattle.just_graph.specs.Found.{is_seen}
use Rattle.just_graph_order.proofs.finish_order.next_unseen.Given as goal

abbrev pub invariant-loop-j : goal.invariant-loop-j
invariant-loop-j l = (k : ℕ) → l.from ≤ k → k < l.j → is_seen l.seen (slice_index l.row k) ≡ true
