use Rattle.std.proofs.Common.{ℕ, List}
use Rattle.std.specs.Str.{bytes_eq}
use Rattle.std.specs.HashMap.{get}
use Rattle.just_names.specs.Index.{IsLast}
use Rattle.just_names.proofs.index.index_last.Given as goal

abbrev pub invariant-loop-place : goal.invariant-loop-place
invariant-loop-place l = (name : List ℕ) → IsLast l.names l.place name (get bytes_eq l.index name)
