-- What private functions say beside `Found.antt`.
use Rattle.std.specs.Prelude.{◌≡◌, ℕ, ◌<◌, ◌≤◌, Bool, true, false, List, length, get_or, slice_index}
use Rattle.std.specs.declared.vec.Vec.{Vec}
use Rattle.std.specs.declared.alloc.Global.{Global}
use Rattle.just_graph.specs.Steps.{Reached}
use Rattle.just_graph.specs.Graph.{HasEdge}
use Rattle.just_graph.specs.Found.{Listing, is_seen}

-- The nodes found are reached, and the edges of the first n of them are passed.
pub record Reaching (g : List (Vec ℕ Global)) (start : List ℕ) (stops seen : List Bool) (found : List ℕ) (n : ℕ) : Type 0 where
  pub listing : Listing seen found
  pub seen_len : length seen ≡ length g
  pub within : n ≤ length found
  pub reached : (k : ℕ) → k < length found → Reached (HasEdge g) start stops (slice_index found k)
  pub start_seen : (k : ℕ) → k < length start → is_seen seen (slice_index start k) ≡ true
  pub passed : (k b : ℕ) → k < n → get_or stops (slice_index found k) false ≡ false → HasEdge g (slice_index found k) b → is_seen seen b ≡ true
