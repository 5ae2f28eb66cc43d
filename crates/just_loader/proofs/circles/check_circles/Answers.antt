use Rattle.std.proofs.Common.{◌≡◌, [], ◌∷◌, length, ◌-◌, subst, sym, refl, arith, lit<}
use Rattle.std.proofs.lemmas.Grind.{common_steps}
use Rattle.std.specs.List.{Contains}
use Rattle.just_graph.specs.Graph.{HasEdge}
use Rattle.just_graph.specs.Steps.{IsOrder, IsCircle, ClosesWalk}
use Rattle.just_graph.specs.Unfolding.{AreEdges, HasStep}
use Rattle.just_graph.proofs.Trails.{steps_order, edges_inside}
use Rattle.just_loader.proofs.FileCircles.{edges_lent, none_leads_back, names_circle, circle_of_steps, way_of_steps, read_inside}
use Rattle.just_loader.proofs.circles.check_circles.Goals as goal

pub order-requires-clause-graph : goal.order-requires-clause-graph
order-requires-clause-graph c =
    let are : AreEdges c.args.scan.now.rows.items c.as_slice-2.result.now = edges_lent c.as_slice.ensures.value c.as_slice-2.ensures.value c.in_ok-edges.ensures in
    edges_inside c.args.scan.now.rows.items c.as_slice-2.result.now are c.requires.within

pub returns-in-Ok-clause-ordered : goal.returns-in-Ok-clause-ordered
returns-in-Ok-clause-ordered c =
    let are : AreEdges c.args.scan.now.rows.items c.as_slice-2.result.now = edges_lent c.as_slice.ensures.value c.as_slice-2.ensures.value c.in_ok-edges.ensures in
    let order = c.in-Ok.field-0.items in
    let o : IsOrder (HasEdge c.as_slice-2.result.now) (length c.as_slice-2.result.now) c.as_slice-3.result.now order = rw c.in-Ok.is at c.in_ok-order.ensures.ordered in
    let roots : Contains c.as_slice-3.result.now 0 = subst (λ xs. Contains xs 0) (sym c.as_slice-3.ensures) (0, lit< tt, refl) in
    (c.as_slice-3.result.now, order, roots, steps_order c.args.scan.now.rows.items c.as_slice-2.result.now c.as_slice-3.result.now order are o)

pub returns-in-Ok-clause-none : goal.returns-in-Ok-clause-none
returns-in-Ok-clause-none c = λ w is f r l. none_leads_back w c.args.scan.now is (returns-in-Ok-clause-ordered c) f r l

pub path_at-requires : goal.path_at-requires
path_at-requires c =
    let edge : IsCircle (HasEdge c.as_slice-2.result.now) c.in-Err.circle.items = rw c.in-Err.is at c.in_ok-order.ensures.circle in
    let circle : IsCircle (HasStep c.args.scan.now.rows.items) c.in-Err.circle.items = circle_of_steps c.args.scan.now.rows.items c.as_slice-2.result.now c.in-Err.circle.items (edges_lent c.as_slice.ensures.value c.as_slice-2.ensures.value c.in_ok-edges.ensures) edge in
    let len : c.len-last.result ≡ length c.in-Err.circle.items = grind (arith, common_steps) in
    read_inside c.args.scan.now c.in-Err.circle.items c.requires circle (c.len-last.result - 1 - 1) c.index.result.now (omega (arith, circle.steps)) c.index.ensures

pub path_at-requires-2 : goal.path_at-requires-2
path_at-requires-2 c =
    let edge : IsCircle (HasEdge c.as_slice-2.result.now) c.in-Err.circle.items = rw c.in-Err.is at c.in_ok-order.ensures.circle in
    let circle : IsCircle (HasStep c.args.scan.now.rows.items) c.in-Err.circle.items = circle_of_steps c.args.scan.now.rows.items c.as_slice-2.result.now c.in-Err.circle.items (edges_lent c.as_slice.ensures.value c.as_slice-2.ensures.value c.in_ok-edges.ensures) edge in
    let len : c.len-last.result ≡ length c.in-Err.circle.items = grind (arith, common_steps) in
    read_inside c.args.scan.now c.in-Err.circle.items c.requires circle (c.len-last.result - 1) c.index-2.result.now (omega (arith, circle.steps)) c.index-2.ensures

pub returns-clause-named : goal.returns-clause-named
returns-clause-named c = λ w is.
    let edge : IsCircle (HasEdge c.as_slice-2.result.now) c.in-Err.circle.items = rw c.in-Err.is at c.in_ok-order.ensures.circle in
    let circle : IsCircle (HasStep c.args.scan.now.rows.items) c.in-Err.circle.items = circle_of_steps c.args.scan.now.rows.items c.as_slice-2.result.now c.in-Err.circle.items (edges_lent c.as_slice.ensures.value c.as_slice-2.ensures.value c.in_ok-edges.ensures) edge in
    let way : ClosesWalk (HasStep c.args.scan.now.rows.items) (0 ∷ []) c.in-Err.circle.items = way_of_steps c.args.scan.now.rows.items c.as_slice-2.result.now (0 ∷ []) c.as_slice-3.result.now c.in-Err.circle.items (edges_lent c.as_slice.ensures.value c.as_slice-2.ensures.value c.in_ok-edges.ensures) c.as_slice-3.ensures (rw c.in-Err.is at c.in_ok-order.ensures.way) in
    let len : c.len-last.result ≡ length c.in-Err.circle.items = grind (arith, common_steps) in
    names_circle w c.args.scan.now is c.in-Err.circle.items circle way c.len-last.result c.index.result.now c.index-2.result.now c.in_ok-path_at.field-0 c.in_ok-path_at-2.field-0 len c.index.ensures c.index-2.ensures c.in_ok-path_at.ensures c.in_ok-path_at-2.ensures
