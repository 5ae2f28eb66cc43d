-- A search that notes, for each number that it finds, the place of the one that led to it.
use Rattle.std.specs.Prelude.{◌≡◌, ℕ, ◌<◌, List, length, slice_index}
use Rattle.std.proofs.Common.{◌⊎◌}

-- Number a led to b: it is the start where the place noted for b is b's own, and else it stands at that earlier place.
pub record CameThere (start : ℕ) (found came : List ℕ) (a b : ℕ) : Type 0 where
  pub place : ℕ
  pub inside : place < length found
  pub is : slice_index found place ≡ b
  pub from : ((slice_index came place ≡ place) × (a ≡ start)) ⊎ ((slice_index came place < place) × (slice_index found (slice_index came place) ≡ a))
