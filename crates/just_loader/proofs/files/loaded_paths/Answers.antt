use Rattle.std.proofs.Common.{◌<◌, ◌++◌, ◌∷◌, [], length, ◌∙◌, ap, arith}
use Rattle.std.proofs.lemmas.Grind.{common_steps}
use Rattle.just_loader.proofs.LoadedPaths.{mark_inside, place_inside, seen_again, seen_first}
use Rattle.just_loader.proofs.files.loaded_paths.Goals as goal

pub index-requires : goal.index-requires
index-requires c =
    let there : c.node-item.result.node < length c.args.scan.now.files.items = place_inside c.args.scan.now c.args.nodes.now c.loop-node.node-index c.node-item.result c.requires c.loop-node-test.true c.node-item.is in
    let inside : c.node-item.result.node < length c.loop-node.seen.items = omega (arith, there, c.loop-node.invariant.size) in
    grind (arith, common_steps)

pub loop-node-preserved-then-index : goal.loop-node-preserved-then-index
loop-node-preserved-then-index c =
    seen_again c.args.scan.now c.args.nodes.now c.loop-node.node-index c.node-item.result c.requires c.loop-node-test.true c.node-item.is
    c.loop-node.seen.items c.loop-node.loaded c.loop-node.invariant c.index.result.now c.index.ensures c.if-index.true

pub index_mut-requires : goal.index_mut-requires
index_mut-requires c =
    let inside : c.node-item.result.node < length c.loop-node.seen.items =
    mark_inside c.args.scan.now c.args.nodes.now c.loop-node.node-index c.node-item.result c.requires c.loop-node-test.true c.node-item.is
    c.loop-node.seen.items c.loop-node.loaded c.loop-node.invariant c.index.result.now c.index.ensures in
    grind (arith, common_steps)

pub index-requires-in-loop-node : goal.index-requires-in-loop-node
index-requires-in-loop-node c =
    let there : c.node-item.result.node < length c.args.scan.now.files.items = place_inside c.args.scan.now c.args.nodes.now c.loop-node.node-index c.node-item.result c.requires c.loop-node-test.true c.node-item.is in
    grind (arith, common_steps)

pub loop-node-preserved : goal.loop-node-preserved
loop-node-preserved c =
    seen_first c.args.scan.now c.args.nodes.now c.loop-node.node-index c.node-item.result c.requires c.loop-node-test.true c.node-item.is
    c.loop-node.seen.items c.loop-node.loaded c.loop-node.invariant c.index.result.now c.index.ensures c.if-index.false
    c.push.new.self c.index-in-loop-node.result.now c.index-in-loop-node.ensures (c.in_ok-push.ensures.ok ∙ ap (λ x. c.loop-node.loaded ++ x ∷ []) (c.in_ok-from_str.ensures ∙ c.as_str.ensures))
