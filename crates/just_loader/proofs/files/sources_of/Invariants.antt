use Rattle.std.proofs.Common.{◌≡◌, List, length}
use Rattle.just_graph.specs.Unfolding.{Node}
use Rattle.just_loader.specs.loops.Loading.{AreNodes, CameInSoFar}
use Rattle.just_loader.proofs.files.sources_of.Given as goal

abbrev pub invariant-loop-node : goal.invariant-loop-node
invariant-loop-node l = record {
  count : length l.sources.items ≡ l.node-index;
  came : (ns : List Node) → AreNodes l.scan l.nodes ns → CameInSoFar l.scan ns l.sources.items;
}
