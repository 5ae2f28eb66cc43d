use Rattle.std.proofs.Common.{[], refl}
use Rattle.just_graph.specs.Graph.{HasEdge}
use Rattle.just_graph_order.proofs.Closing.{if_none}
use Rattle.just_graph_order.proofs.Inside.{found_inside}
use Rattle.just_graph_order.proofs.Ordering.{is_order_through}
use Rattle.just_graph_order.proofs.solid_order.order_through.Goals as goal

pub solid_circle-requires-clause-nodes : goal.solid_circle-requires-clause-nodes
solid_circle-requires-clause-nodes c =
    let f = c.in_ok-finished.ensures in
    found_inside c.args.edges.now c.requires.graph c.args.roots.now [] c.in_ok-finished.finished.items c.as_slice.result.now _ c.requires.roots (λ a. (f.reached a, f.listed a)) c.as_slice.ensures.value refl

pub circle_from_first-requires-clause-finished : goal.circle_from_first-requires-clause-finished
circle_from_first-requires-clause-finished c =
    let f = c.in_ok-finished.ensures in
    found_inside c.args.edges.now c.requires.graph c.args.roots.now [] c.in_ok-finished.finished.items c.as_slice-in-Some.result.now _ c.requires.roots (λ a. (f.reached a, f.listed a)) c.as_slice-in-Some.ensures.value refl

pub solid_ones-requires : goal.solid_ones-requires
solid_ones-requires c =
    let f = c.in_ok-finished.ensures in
    found_inside c.args.edges.now c.requires.graph c.args.roots.now [] c.in_ok-finished.finished.items c.as_slice-2.result.now _ c.requires.roots (λ a. (f.reached a, f.listed a)) c.as_slice-2.ensures.value c.requires.solid

pub returns-clause-ordered : goal.returns-clause-ordered
returns-clause-ordered c =
    is_order_through (HasEdge c.args.edges.now) c.args.solid.now c.args.roots.now c.in_ok-finished.finished.items c.in_ok-finished.ensures
    (rw c.as_slice.ensures.value at (if_none c.in_ok-circle.field-0 c.in_default.not-Some c.in_ok-circle.ensures.never))
    c.as_slice-2.result.now c.in_ok-order.order.items c.as_slice-2.ensures.value c.in_ok-order.ensures
