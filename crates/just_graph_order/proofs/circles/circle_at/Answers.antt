use Rattle.std.proofs.Common.{◌≡◌, ◌<◌, ◌≤◌, ◌∙◌, length, slice_index, refl, sym, subst, arith}
use Rattle.std.proofs.lemmas.Grind.{common_steps}
use Rattle.just_graph.specs.Graph.{targets}
use Rattle.just_graph.proofs.Targets.{row_inside}
use Rattle.just_graph_order.proofs.Closing.{Closing, all_inside, node_found, closing_step}
use Rattle.just_graph_order.proofs.Coming.{read_at, search_begun, coming_begun, coming_step, edge_circle, not_start_more, not_met}
use Rattle.just_graph_order.proofs.circles.circle_at.Goals as goal

pub add-requires-clause-row : goal.add-requires-clause-row
add-requires-clause-row c =
    let len : length c.resize.new.self.items ≡ length c.args.edges.now = grind (arith, common_steps, c.in_ok-resize.ensures.len) in
    row_inside c.args.edges.now c.args.start _ _ c.requires.graph c.requires.start c.row.ensures len

pub loop-next-init : goal.loop-next-init
loop-next-init c =
    let len : length c.resize.new.self.items ≡ length c.args.edges.now = grind (arith, common_steps, c.in_ok-resize.ensures.len) in
    record {
      closing =
          subst (λ xs. Closing c.args.edges.now xs c.add.new.seen.items c.add.new.found.items 0) c.row.ensures
          (search_begun c.args.edges.now c.args.start c.row.result.now _ _ _ _ len c.new-found.ensures.items c.in_ok-add.ensures);
      coming = coming_begun c.args.edges.now c.args.start c.row.result.now _ _ _ _ _ c.row.ensures c.new-found.ensures.items c.in_ok-add.ensures (omega (arith, c.in_ok-came.ensures.len)) (λ k h. c.in_ok-came.ensures.own k (omega arith));
      not_start = λ k h e. absurd (omega arith);
    }

pub way_back-requires-clause-found : goal.way_back-requires-clause-found
way_back-requires-clause-found c = all_inside _ _ _ _ _ c.loop-next.invariant.closing c.as_slice.result.now _ c.as_slice.ensures.value c.requires.solid

pub returns-then-node-start-clause-circle : goal.returns-then-node-start-clause-circle
returns-then-node-start-clause-circle c =
    let inside : c.loop-next.next < length c.loop-next.found.items = omega arith in
    edge_circle c.args.edges.now c.args.start c.loop-next.found.items c.loop-next.came.items c.loop-next.invariant.coming c.args.solid.now c.as_slice.result.now c.as_slice-then-node-start.result.now c.loop-next.next _
    c.as_slice.ensures.value c.as_slice-then-node-start.ensures.value
    (read_at c.loop-next.found.items c.loop-next.next c.index-node.result.now inside c.index-node.ensures ∙ c.if-node-start.true)
    c.in_ok-circle.ensures

pub row-requires-in-loop-next : goal.row-requires-in-loop-next
row-requires-in-loop-next c = node_found _ _ _ _ _ c.loop-next.invariant.closing c.index-node.result.now (omega arith) c.index-node.ensures

pub add-requires-in-loop-next-clause-row : goal.add-requires-in-loop-next-clause-row
add-requires-in-loop-next-clause-row c =
    row_inside c.args.edges.now c.index-node.result.now _ _ c.requires.graph (node_found _ _ _ _ _ c.loop-next.invariant.closing c.index-node.result.now (omega arith) c.index-node.ensures)
    c.row-in-loop-next.ensures c.loop-next.invariant.closing.seen_len

pub loop-next-preserved : goal.loop-next-preserved
loop-next-preserved c =
    let inside : c.loop-next.next < length c.loop-next.found.items = omega arith in
    let is_node : slice_index c.loop-next.found.items c.loop-next.next ≡ c.index-node.result.now = read_at c.loop-next.found.items c.loop-next.next c.index-node.result.now inside c.index-node.ensures in
    let came_len : length c.loop-next.came.items ≡ length c.loop-next.found.items = c.loop-next.invariant.coming.len in
    let longer : length c.loop-next.found.items ≤ length c.add-in-loop-next.new.found.items = c.in_ok-add-2.ensures.longer in
    record {
      closing = closing_step _ _ _ _ _ c.loop-next.invariant.closing c.index-node.result.now _ _ _ inside c.index-node.ensures c.row-in-loop-next.ensures c.in_ok-add-2.ensures;
      coming =
          coming_step c.args.edges.now c.args.start c.loop-next.found.items c.loop-next.came.items c.loop-next.invariant.coming c.loop-next.next c.index-node.result.now c.row-in-loop-next.result.now _ _ _ _
          inside is_node c.row-in-loop-next.ensures c.in_ok-add-2.ensures (grind (arith, common_steps, c.in_ok-resize-2.ensures.len))
          (λ k h. c.in_ok-resize-2.ensures.by_index.0 k 0 (omega arith) (omega arith))
          (λ k h l. c.in_ok-resize-2.ensures.by_index.1 k 0 refl (omega arith) (omega arith));
      not_start =
          not_start_more c.args.edges.now c.args.start c.row-in-loop-next.result.now _ _ _ _ c.loop-next.next c.in_ok-add-2.ensures inside
          (λ e. c.if-node-start.false (sym is_node ∙ e)) c.loop-next.invariant.not_start;
    }

pub returns-clause-never : goal.returns-clause-never
returns-clause-never c = not_met c.args.edges.now c.args.start (targets c.args.edges.now c.args.start) _ _ _ c.loop-next.invariant.closing (omega arith) refl c.loop-next.invariant.not_start
