use Rattle.std.proofs.Common.{arith}
use Rattle.just_graph_order.proofs.Finishes.{is_finished}
use Rattle.just_graph_order.proofs.finish_order.finish.Goals as goal

pub returns : goal.returns
returns c = is_finished c.args.edges.now c.args.roots.now _ _ c.loop-place.invariant.finishing (λ k h. c.loop-place.invariant.roots_seen k (omega arith))
