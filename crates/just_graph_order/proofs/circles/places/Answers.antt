use Rattle.std.proofs.Common.{rules}
use Rattle.std.proofs.iter.runs.Sources.{ranges}
use Rattle.just_graph_order.proofs.circles.places.Goals as goal

pub returns : goal.returns
returns c = search (rules, ranges)
