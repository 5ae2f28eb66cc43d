use Rattle.std.proofs.Common.{length, take}
use Rattle.std.specs.List.{All}
use Rattle.just_module_headers.specs.Joined.{AreJoined, IsJoined}
use Rattle.just_module_headers.specs.loops.Joined.{StaysJoined}
use Rattle.just_module_headers.proofs.join.join_each.Given as goal

abbrev pub invariant-loop-place : goal.invariant-loop-place
invariant-loop-place l = record {
  joined : AreJoined l.rows (length l.rows.imports.items) l.joined;
  each : All (IsJoined l.rows l.joined) (take l.place-index l.places);
  stays : StaysJoined l.rows l.initial.joined l.joined;
}
