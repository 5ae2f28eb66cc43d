use Rattle.just_graph.specs.Found.{Added}
use Rattle.just_graph.proofs.rows.add.Given as goal

abbrev pub invariant-loop-node : goal.invariant-loop-node
invariant-loop-node l = Added l.row l.node-index l.initial.seen.items l.initial.found.items l.seen.items l.found.items
