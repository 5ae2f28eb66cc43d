use Rattle.std.proofs.Common.{◌≡◌, ◌++◌, take}
use Rattle.just_module_headers.proofs.join.push_row.Given as goal

abbrev pub invariant-loop-place : goal.invariant-loop-place
invariant-loop-place l = l.all.items ≡ l.initial.all.items ++ take l.place-index l.row
