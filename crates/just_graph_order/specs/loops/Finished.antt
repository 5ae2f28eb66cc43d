-- A depth-first search that goes on at circles, and the order in which it is done with the nodes.
use Rattle.std.specs.Prelude.{◌≡◌, ◌≢◌, ℕ, ◌+◌, ◌<◌, ◌≤◌, Bool, true, List, [], take, length, slice_index}
use Rattle.std.specs.List.{Contains}
use Rattle.std.proofs.Common.{◌⊎◌}
use Rattle.std.specs.declared.vec.Vec.{Vec}
use Rattle.std.specs.declared.alloc.Global.{Global}
use Rattle.just_graph.specs.Steps.{Leads, IsWalk, IsOnce, Reached}
use Rattle.just_graph.specs.Graph.{targets, HasEdge}
use Rattle.just_graph.specs.Found.{is_seen, Listing}

-- Whatever a step leads to from a number that is listed up to place k is listed up to there too, or leads to the number
-- at k.
abbrev pub ListsOrComesBack : (ℕ → ℕ → Type 0) → List ℕ → Type 0
ListsOrComesBack R ns = (j k b : ℕ) → j ≤ k → k < length ns → R (slice_index ns j) b → Contains (take (k + 1) ns) b ⊎ Leads R b (slice_index ns k)

-- Each number that steps lead to from the roots, once, in an order in which only a circle lets a number stand before one
-- that it leads to.
pub record IsFinished (R : ℕ → ℕ → Type 0) (roots order : List ℕ) : Type 0 where
  pub once : IsOnce order
  pub reached : (a : ℕ) → Contains order a → Reached R roots [] a
  pub listed : (a : ℕ) → Reached R roots [] a → Contains order a
  pub after : ListsOrComesBack R order

-- A search under way: the nodes of its path, how many edges of each are passed, and the order so far.
pub record Finishing (g : List (Vec ℕ Global)) (roots : List ℕ) (seen : List Bool) (path passed order : List ℕ) : Type 0 where
  pub seen_len : length seen ≡ length g
  pub passed_len : length passed ≡ length path
  -- a node is seen where it is on the path or in the order: in one of them, once
  pub seen_on : (a : ℕ) → is_seen seen a ≡ true → Contains path a ⊎ Contains order a
  pub path_seen : (k : ℕ) → k < length path → is_seen seen (slice_index path k) ≡ true
  pub order_seen : (k : ℕ) → k < length order → is_seen seen (slice_index order k) ≡ true
  pub path_once : IsOnce path
  pub order_once : IsOnce order
  pub apart : (j k : ℕ) → j < length path → k < length order → slice_index path j ≢ slice_index order k
  pub path_walk : IsWalk (HasEdge g) path
  -- what a node of the path has an edge to is seen, as far as its edges are passed
  pub passed_seen : (k j : ℕ) → k < length path → j < slice_index passed k → j < length (targets g (slice_index path k)) → is_seen seen (slice_index (targets g (slice_index path k)) j) ≡ true
  pub order_closed : (k b : ℕ) → k < length order → HasEdge g (slice_index order k) b → is_seen seen b ≡ true
  pub order_after : ListsOrComesBack (HasEdge g) order
  pub reached : (a : ℕ) → is_seen seen a ≡ true → Reached (HasEdge g) roots [] a

-- What is seen is listed, and edges lead from it only to what is seen.
pub record Closed (g : List (Vec ℕ Global)) (seen : List Bool) (found : List ℕ) : Type 0 where
  pub listing : Listing seen found
  pub seen_len : length seen ≡ length g
  pub closed : (a b : ℕ) → is_seen seen a ≡ true → HasEdge g a b → is_seen seen b ≡ true
