use Rattle.std.proofs.Common.{◌∙◌, ◌<◌, length, sym, ap, subst, arith}
use Rattle.std.specs.List.{All, Contains}
use Rattle.just_graph.specs.Graph.{HasEdge, IsGraph}
use Rattle.just_graph.specs.Steps.{IsCircle}
use Rattle.just_graph_order.specs.Through.{IsOrderThrough, ReadsThrough}
use Rattle.just_name_resolution.specs.Lent.{known_in}
use Rattle.just_module_variables.proofs.Between.{is_graph}
use Rattle.just_module_variables.proofs.Circles.{circle_at, circle_in}
use Rattle.just_module_variables.proofs.Edges.{variables_within}
use Rattle.just_module_variables.proofs.Ordered.{expressions_kept, order_at, order_in, roots_all, roots_inside}
use Rattle.just_name_resolution.proofs.Placed.{different}
use Rattle.just_module_variables.proofs.evaluation_order.ordered.Goals as goal

pub order_through-requires-clause-graph : goal.order_through-requires-clause-graph
order_through-requires-clause-graph g c =
    let m = known_in (g.S.Syntax.answers c.args.known.now.syntax.now) c.args.known.now in
    subst IsGraph (sym c.as_slice.ensures.value)
    (is_graph m (different m.assignments c.requires.variables) (different m.functions c.requires.functions) c.args.nodes.now.rows.items c.requires.rows)

pub order_through-requires-clause-roots : goal.order_through-requires-clause-roots
order_through-requires-clause-roots g c =
    let m = known_in (g.S.Syntax.answers c.args.known.now.syntax.now) c.args.known.now in
    let within = variables_within m c.args.nodes.now.rows.items c.requires.rows in
    let long = ap length c.as_slice.ensures.value in
    let many = c.len.ensures.len in
    subst (All (λ a. a < length c.as_slice.result.now)) (sym c.as_slice-3.ensures.value)
    (roots_inside c.in_ok-roots.roots.items c.len.result (length c.as_slice.result.now) c.in_ok-roots.ensures.count c.in_ok-roots.ensures.each (omega (arith, within, long, many)))

pub returns-in-Ok-clause-kept : goal.returns-in-Ok-clause-kept
returns-in-Ok-clause-kept g c =
    let m = known_in (g.S.Syntax.answers c.args.known.now.syntax.now) c.args.known.now in
    let many = c.len.ensures.len in
    let o : IsOrderThrough (HasEdge c.as_slice.result.now) c.as_slice-2.result.now c.as_slice-3.result.now c.in-Ok.order.items = rw c.in-Ok.is at c.in_ok-order.ensures.ordered in
    expressions_kept m (different m.assignments c.requires.variables) (different m.functions c.requires.functions) c.args.nodes.now.rows.items c.requires.rows c.as_slice-3.result.now c.in-Ok.order.items
    (λ a h. subst (λ xs. Contains xs a) (sym c.as_slice-3.ensures.value) (roots_all c.in_ok-roots.roots.items c.len.result c.in_ok-roots.ensures.count c.in_ok-roots.ensures.each a (omega (arith, many))))
    (order_in m _ _ _ _ _ c.as_slice.ensures.value (c.as_slice-2.ensures.value ∙ c.requires.solid) o)
    c.requires.values c.requires.bodies

pub returns-in-Ok-clause-ordered : goal.returns-in-Ok-clause-ordered
returns-in-Ok-clause-ordered g c =
    let m = known_in (g.S.Syntax.answers c.args.known.now.syntax.now) c.args.known.now in
    let many = c.len.ensures.len in
    let o : IsOrderThrough (HasEdge c.as_slice.result.now) c.as_slice-2.result.now c.as_slice-3.result.now c.in-Ok.order.items = rw c.in-Ok.is at c.in_ok-order.ensures.ordered in
    order_at m (different m.assignments c.requires.variables) (different m.functions c.requires.functions) c.args.nodes.now.rows.items c.requires.rows c.as_slice-3.result.now c.in-Ok.order.items
    (λ a h. subst (λ xs. Contains xs a) (sym c.as_slice-3.ensures.value) (roots_all c.in_ok-roots.roots.items c.len.result c.in_ok-roots.ensures.count c.in_ok-roots.ensures.each a (omega (arith, many))))
    (order_in m _ _ _ _ _ c.as_slice.ensures.value (c.as_slice-2.ensures.value ∙ c.requires.solid) o)

pub circle_error-requires : goal.circle_error-requires
circle_error-requires g c =
    let m = known_in (g.S.Syntax.answers c.args.known.now.syntax.now) c.args.known.now in
    let k : IsCircle (ReadsThrough (HasEdge c.as_slice.result.now) c.as_slice-2.result.now) c.in-Err.circle.items = rw c.in-Err.is at c.in_ok-order.ensures.circle in
    circle_at m (different m.assignments c.requires.variables) (different m.functions c.requires.functions) c.args.nodes.now.rows.items c.requires.rows c.as_slice-in-Err.result.now
    (circle_in m _ _ _ _ _ c.as_slice.ensures.value (c.as_slice-2.ensures.value ∙ c.requires.solid) c.as_slice-in-Err.ensures.value k)
