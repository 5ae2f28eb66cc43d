use Rattle.std.proofs.Common.{subst, sym}
use Rattle.just_graph.specs.Graph.{IsGraph}
use Rattle.just_module_headers.proofs.Joining.{joined_graph}
use Rattle.just_module_headers.proofs.join.arrange.Goals as goal

pub inner_first-requires-clause-graph : goal.inner_first-requires-clause-graph
inner_first-requires-clause-graph c = subst IsGraph (sym c.as_slice.ensures.value) (joined_graph c.args.rows.now c.in_ok-joined.joined c.requires.graphs c.in_ok-joined.ensures.joined)
