use Rattle.std.proofs.Common.{ℕ, ◌<◌, ◌∙◌, length, slice_index, refl, ap, arith}
use Rattle.just_graph_order.specs.loops.Finished.{Closed}
use Rattle.just_graph.proofs.Targets.{row_inside}
use Rattle.just_graph.proofs.Adding.{is_read}
use Rattle.just_graph_order.proofs.Closing.{if_none, none_passing, none_found, none_seen, none_back, same_closed}
use Rattle.just_graph_order.proofs.circles.solid_circle.Goals as goal
use Rattle.just_graph_order.proofs.circles.solid_circle.Goals.{then-solid-node+in_ok-close_over+then-index+in_ok-circle+in_default, then-solid-node+in_ok-close_over+else-index, else-solid-node}

pub close_over-requires-clause-start : goal.close_over-requires-clause-start
close_over-requires-clause-start c =
    row_inside c.args.edges.now (slice_index c.args.nodes.now c.loop-node.node-index) _ _ c.requires.graph (c.requires.nodes c.loop-node.node-index 0 c.loop-node-test.true) c.row.ensures refl

pub loop-node-preserved : goal.loop-node-preserved
loop-node-preserved c =
    let i : ℕ = c.loop-node.node-index in
    let none = c.loop-node.invariant.none in
    elim c.if-solid-node.branch [
      | then-solid-node+in_ok-close_over+then-index+in_ok-circle+in_default w ↦ record {
        closed = same_closed c.args.edges.now _ _ _ _ (ap (λ v. v.items) w.seen-is) (ap (λ v. v.items) w.found-is) w.in_ok-close_over.ensures.closed;
        none = none_found c.args.edges.now c.args.solid.now c.args.nodes.now i none (if_none w.in_ok-circle.field-0 w.in_default.not-Some w.in_ok-circle.ensures.never);
      }
      | then-solid-node+in_ok-close_over+else-index w ↦
          let closed : Closed c.args.edges.now w.close_over.new.seen.items w.close_over.new.found.items = w.in_ok-close_over.ensures.closed in
          let inside : slice_index c.args.nodes.now i < length c.args.edges.now = c.requires.nodes i 0 c.loop-node-test.true in
          let in_seen : slice_index c.args.nodes.now i < length w.close_over.new.seen.items = omega (arith, closed.seen_len) in
          record {
            closed = same_closed c.args.edges.now _ _ _ _ (ap (λ v. v.items) w.seen-is) (ap (λ v. v.items) w.found-is) closed;
            none = none_seen c.args.edges.now c.args.solid.now c.args.nodes.now i none w.close_over.new.seen.items w.close_over.new.found.items w.row.result.now closed w.row.ensures w.in_ok-close_over.ensures.start_seen
                (is_read _ _ w.index.result.now in_seen w.index.ensures ∙ w.if-index.false);
          }
      | else-solid-node w ↦ record {
        closed = same_closed c.args.edges.now _ _ _ _ (ap (λ v. v.items) w.seen-is) (ap (λ v. v.items) w.found-is) c.loop-node.invariant.closed;
        none = none_passing c.args.edges.now c.args.solid.now c.args.nodes.now i none w.if-solid-node.false;
      }
    ]

pub returns-clause-never : goal.returns-clause-never
returns-clause-never c = none_back c.args.edges.now c.args.solid.now c.args.nodes.now c.loop-node.node-index c.loop-node.invariant.none (omega arith)
