-- Lists in the order of keys.
use Rattle.std.specs.Prelude.{◌≡◌, Bool, true, false, List, map}
use Rattle.std.specs.Borrow.{Bor}
use Rattle.std.specs.Cmp.Lexicographic.{slice_cmp}
use Rattle.std.specs.List.{filter}
use Rattle.std.specs.List.Sorted.{IsPermutation, IsSortedByKey}
use Rattle.std.specs.Ordering.{nat_cmp, is_eq, ordering_then}
use Rattle.std.specs.declared.cmp.Ordering.{Ordering}
use Rattle.just_listings.specs.declared.order.Place.{Place}
use Rattle.just_listings.specs.declared.order.Placed.{Placed}

-- A list by its keys: it has the elements of another one, none has a lesser key than the one before it, and those of one key stand as they do there.
pub record IsByKey {X K : Type 0} (key : X → K) (cmp : K → K → Ordering) (xs ys : List X) : Type 0 where
  pub same : IsPermutation xs ys
  pub rising : IsSortedByKey key cmp ys
  pub tied : (k : K) → filter (λ x. is_eq (cmp (key x) k)) ys ≡ filter (λ x. is_eq (cmp (key x) k)) xs

-- by its keys where that is asked for, and otherwise as it is
abbrev pub AreInAskedOrder : {X K : Type 0} → Bool → (X → K) → (K → K → Ordering) → List X → List X → Type 0
AreInAskedOrder true key cmp xs ys = IsByKey key cmp xs ys
AreInAskedOrder false key cmp xs ys = ys ≡ xs

-- places, by their imports, and then by what stands before them
abbrev pub place_order : Place → Place → Ordering
place_order a b = ordering_then (slice_cmp nat_cmp a.imports b.imports) (nat_cmp a.offset b.offset)

abbrev pub placed_item : {T : Type 0} → Placed T → T
placed_item p = p.item

-- what references lead to
abbrev pub referents : {X : Type 0} → List (Bor X) → List X
referents {X} refs = map (λ (it : Bor X). it.now) refs
