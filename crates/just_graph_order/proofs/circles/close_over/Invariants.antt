use Rattle.std.proofs.Common.{◌+◌, ◌-◌, length}
use Rattle.just_graph.specs.Found.{unseen}
use Rattle.just_graph_order.proofs.Closing.{Closing}
use Rattle.just_graph_order.proofs.circles.close_over.Given as goal

abbrev pub invariant-loop-next : goal.invariant-loop-next
invariant-loop-next l = Closing l.edges l.start l.seen.items l.found.items l.next

abbrev pub decreases-loop-next : goal.decreases-loop-next
decreases-loop-next l = unseen l.seen.items + length l.found.items - l.next
