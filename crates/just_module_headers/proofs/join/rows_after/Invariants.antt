use Rattle.std.proofs.Common.{◌≡◌, take}
use Rattle.std.specs.Prelude.{flat_map}
use Rattle.just_graph.specs.Graph.{targets}
use Rattle.just_module_headers.proofs.join.rows_after.Given as goal

abbrev pub invariant-loop-file : goal.invariant-loop-file
invariant-loop-file l = l.all.items ≡ flat_map (targets l.rows) (take l.file-index l.files)
