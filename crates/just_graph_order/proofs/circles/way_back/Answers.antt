use Rattle.std.proofs.Common.{◌<◌, ◌≤◌, slice_index, refl, arith}
use Rattle.just_graph_order.proofs.WayBack.{back_pushed, back_passed, back_over}
use Rattle.just_graph_order.proofs.circles.way_back.Goals as goal

pub loop-at-preserved-in-Continue-branch-2 : goal.loop-at-preserved-in-Continue-branch-2
loop-at-preserved-in-Continue-branch-2 c =
    let up_to : slice_index c.args.came.now c.loop-at.at ≤ c.loop-at.at = c.requires.earlier c.loop-at.at c.loop-at.invariant.inside in
    let before : slice_index c.args.came.now c.loop-at.at < c.loop-at.at = omega arith in
    back_pushed c.args.solid.now c.args.found.now c.args.came.now (slice_index c.args.found.now c.args.place) c.requires.once c.loop-at.at c.loop-at.circle.items c.loop-at.invariant
    (slice_index c.args.came.now c.loop-at.at) refl before c.push-then-solid-node.new.self.items c.if-solid-node.true c.in_ok-push-2.ensures.items

pub loop-at-preserved : goal.loop-at-preserved
loop-at-preserved c =
    let up_to : slice_index c.args.came.now c.loop-at.at ≤ c.loop-at.at = c.requires.earlier c.loop-at.at c.loop-at.invariant.inside in
    let before : slice_index c.args.came.now c.loop-at.at < c.loop-at.at = omega arith in
    back_passed c.args.solid.now c.args.found.now c.args.came.now (slice_index c.args.found.now c.args.place) c.requires.once c.loop-at.at c.loop-at.circle.items c.loop-at.invariant
    (slice_index c.args.came.now c.loop-at.at) refl before c.if-solid-node.false

pub returns : goal.returns
returns c =
    back_over c.args.solid.now c.args.found.now c.args.came.now (slice_index c.args.found.now c.args.place) c.requires.once c.loop-at.at c.loop-at.circle.items c.loop-at.invariant
    c.push-2.new.self.items c.reverse.new.self.items c.loop-at-test.false c.requires.start c.in_ok-push-3.ensures.items c.reverse.ensures.items
