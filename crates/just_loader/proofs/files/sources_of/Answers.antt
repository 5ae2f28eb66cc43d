use Rattle.std.proofs.Common.{◌≡◌, ◌∙◌, length, slice_get, refl, ap, sym, subst, arith}
use Rattle.std.proofs.lemmas.List.{length_push}
use Rattle.std.proofs.lemmas.Option.{slice_get_read}
use Rattle.just_loader.specs.loops.Loading.{CameInSoFar}
use Rattle.just_loader.proofs.ComingIn.{came_more, came_none}
use Rattle.just_loader.proofs.files.sources_of.Goals as goal

pub loop-node-init : goal.loop-node-init
loop-node-init c = record {
  count = ap length c.new-sources.ensures.items;
  came = λ ns nodes. came_none c.args.scan.now ns c.new-sources.result.items c.new-sources.ensures.items;
}

pub source_of-requires-clause-node : goal.source_of-requires-clause-node
source_of-requires-clause-node c =
    let count : length c.as_slice.result.now ≡ c.loop-node.node-index = ap length c.as_slice.ensures.value ∙ c.loop-node.invariant.count in
    ap (slice_get c.args.nodes.now) count ∙ slice_get_read c.args.nodes.now (length c.args.nodes.now) c.loop-node.node-index c.node-item.result refl c.loop-node-test.true c.node-item.is

pub source_of-requires-clause-sources : goal.source_of-requires-clause-sources
source_of-requires-clause-sources c = λ ns nodes. subst (CameInSoFar c.args.scan.now ns) (sym c.as_slice.ensures.value) (c.loop-node.invariant.came ns nodes)

pub loop-node-preserved : goal.loop-node-preserved
loop-node-preserved c = record {
  count = omega (arith, ap length c.in_ok-push.ensures.items, length_push c.loop-node.sources.items c.in_ok-source_of.field-0, c.loop-node.invariant.count);
  came = λ ns nodes.
      came_more c.args.scan.now ns c.loop-node.sources.items c.push.new.self.items c.in_ok-source_of.field-0 (c.loop-node.invariant.came ns nodes)
      (λ n here. c.in_ok-source_of.ensures.came ns n nodes (ap (λ xs. slice_get ns (length xs)) c.as_slice.ensures.value ∙ here)) c.in_ok-push.ensures.items;
}

pub returns-clause-sources : goal.returns-clause-sources
returns-clause-sources c = λ ns nodes. record {
  count = omega (arith, nodes.1.count, c.loop-node.invariant.count, c.loop-node.auto.node-index-end, c.loop-node-test.false);
  came = c.loop-node.invariant.came ns nodes;
}
