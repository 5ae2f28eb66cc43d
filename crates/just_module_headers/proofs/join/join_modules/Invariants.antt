use Rattle.std.proofs.Common.{ℕ, ◌<◌, length}
use Rattle.just_graph.specs.Graph.{HasEdge}
use Rattle.just_module_headers.specs.Joined.{AreJoined, IsJoined}
use Rattle.just_module_headers.proofs.join.join_modules.Given as goal

abbrev pub invariant-loop-row : goal.invariant-loop-row
invariant-loop-row l = record {
  joined : AreJoined l.rows (length l.rows.imports.items) l.joined;
  root : IsJoined l.rows l.joined l.root;
  modules : (a b : ℕ) → a < l.row-index → HasEdge l.rows.modules.items a b → IsJoined l.rows l.joined b;
}
