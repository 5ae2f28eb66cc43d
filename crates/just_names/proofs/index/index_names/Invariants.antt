use Rattle.std.proofs.Common.{◌≢◌, ℕ, ◌<◌, List}
use Rattle.std.specs.Str.{bytes_eq}
use Rattle.std.specs.HashMap.{get}
use Rattle.just_names.specs.Index.{name_at, IsLast}
use Rattle.just_names.proofs.index.index_names.Given as goal

abbrev pub invariant-loop-place : goal.invariant-loop-place
invariant-loop-place l = record {
  index : (name : List ℕ) → IsLast l.names l.place name (get bytes_eq l.index name);
  different : (i j : ℕ) → i < j → j < l.place → name_at l.names i ≢ name_at l.names j;
}
