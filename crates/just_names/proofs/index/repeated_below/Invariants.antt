use Rattle.std.proofs.Common.{ℕ, List}
use Rattle.std.specs.Str.{bytes_eq}
use Rattle.std.specs.HashMap.{get}
use Rattle.just_names.specs.Index.{IsLast, NoneRepeats}
use Rattle.just_names.proofs.index.repeated_below.Given as goal

abbrev pub invariant-loop-place : goal.invariant-loop-place
invariant-loop-place l = record {
  index : (name : List ℕ) → IsLast l.names l.place name (get bytes_eq l.index name);
  none : NoneRepeats l.names l.place l.bound;
}
