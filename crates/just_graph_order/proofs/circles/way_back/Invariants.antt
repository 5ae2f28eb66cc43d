use Rattle.std.proofs.Common.{slice_index}
use Rattle.just_graph_order.proofs.WayBack.{Backing}
use Rattle.just_graph_order.proofs.circles.way_back.Given as goal

abbrev pub invariant-loop-at : goal.invariant-loop-at
invariant-loop-at l = Backing l.solid l.found l.came (slice_index l.found l.place) l.at l.circle.items

abbrev pub decreases-loop-at : goal.decreases-loop-at
decreases-loop-at l = l.at
