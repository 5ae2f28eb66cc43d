use Rattle.just_graph_order.specs.loops.Finished.{Closed}
use Rattle.just_graph_order.proofs.Closing.{NoneBack}
use Rattle.just_graph_order.proofs.circles.solid_circle.Given as goal

abbrev pub invariant-loop-node : goal.invariant-loop-node
invariant-loop-node l = record {
  closed : Closed l.edges l.seen.items l.found.items;
  none : NoneBack l.edges l.solid l.nodes l.node-index;
}
