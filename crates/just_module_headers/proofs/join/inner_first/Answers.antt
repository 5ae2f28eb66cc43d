use Rattle.just_graph.specs.Graph.{HasEdge}
use Rattle.just_graph.specs.Steps.{IsCircle}
use Rattle.just_module_headers.proofs.Joining.{no_circle}
use Rattle.just_module_headers.proofs.join.inner_first.Goals as goal

pub unreachable-requires : goal.unreachable-requires
unreachable-requires c =
    let circle : IsCircle (HasEdge c.args.modules.now) c.in-Err.field-0.items = rw c.in-Err.is at c.in_ok-order.ensures.circle in
    no_circle (HasEdge c.args.modules.now) c.requires.deeper.0 c.requires.deeper.1 c.in-Err.field-0.items circle
