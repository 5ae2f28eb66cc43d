use Rattle.std.proofs.Common.{arith}
use Rattle.just_graph.proofs.Targets.{row_inside}
use Rattle.just_graph_order.proofs.Closing.{node_found, closing_step, closing_over}
use Rattle.just_graph_order.proofs.circles.close_over.Goals as goal

pub row-requires : goal.row-requires
row-requires c = node_found _ _ _ _ _ c.loop-next.invariant c.index-node.result.now (omega arith) c.index-node.ensures

pub add-requires-in-loop-next-clause-row : goal.add-requires-in-loop-next-clause-row
add-requires-in-loop-next-clause-row c =
    row_inside c.args.edges.now c.index-node.result.now _ _ c.requires.graph (node_found _ _ _ _ _ c.loop-next.invariant c.index-node.result.now (omega arith) c.index-node.ensures) c.row.ensures c.loop-next.invariant.seen_len

pub loop-next-preserved : goal.loop-next-preserved
loop-next-preserved c = closing_step _ _ _ _ _ c.loop-next.invariant c.index-node.result.now _ _ _ (omega arith) c.index-node.ensures c.row.ensures c.in_ok-add-2.ensures

pub returns-clause-closed : goal.returns-clause-closed
returns-clause-closed c = closing_over _ _ _ _ _ c.loop-next.invariant (omega arith)
