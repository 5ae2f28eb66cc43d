-- Sorts by keys, and lists in order seen as others.
use Rattle.std.proofs.Common.{◌≡◌, ℕ, ◌+◌, ◌<◌, Bool, true, false, cond, not, ◌&&◌, List, [], ◌∷◌, map, length, get_or, refl, sym, ap, subst, ◌∙◌, arith}
use Rattle.std.specs.Cmp.{IsTotalOrder}
use Rattle.std.specs.Cmp.Lexicographic.{slice_cmp}
use Rattle.std.specs.List.{All, filter}
use Rattle.std.specs.List.Sorted.{IsPermutation, IsSortedByKey, IsStableByKey, ties}
use Rattle.std.specs.Ordering.{is_eq, is_lt, nat_cmp, ordering_reverse, ordering_then}
use Rattle.std.specs.declared.cmp.Ordering.{Ordering}
use Rattle.std.specs.declared.cmp.Ordering.TheVariants.{Less, Equal, Greater}
use Rattle.std.proofs.lemmas.Cmp.{nat_cmp_total, nat_list_cmp_total, on_total, then_total}
use Rattle.std.proofs.lemmas.List.{get_or-map, length-map}
use Rattle.std.proofs.lemmas.List.Elements.{All-head, All-tail, filter_agree}
use Rattle.std.proofs.lemmas.List.Sorted.{All-permutation, IsPermutation-map, length_permutation}
use Rattle.std.specs.Borrow.{Bor}
use Rattle.std.proofs.lemmas.Simd.{map-map}
use Rattle.just_listings.specs.Order.{AreInAskedOrder, IsByKey, referents, placed_item, place_order}
use Rattle.just_listings.specs.loops.Order.{item_behind, placed_at}
use Rattle.just_listings.specs.declared.order.Place.{Place}
use Rattle.just_listings.specs.declared.order.Placed.{Placed}

-- places are in order
pub place_total : IsTotalOrder place_order
place_total = then_total (on_total (λ (p : Place). p.imports) nat_list_cmp_total) (on_total (λ (p : Place). p.offset) nat_cmp_total)

neither : (o : Ordering) → (not (is_lt (ordering_reverse o)) && not (is_lt o)) ≡ is_eq o
neither Less = refl
neither Equal = refl
neither Greater = refl

empty : {X : Type 0} (ys : List X) → length ys ≡ 0 → ys ≡ []
empty [] e = refl
empty (y ∷ ys) e = absurd (omega (arith, e))

module _ {K : Type 0} (cmp : K → K → Ordering) where
  tied_key : IsTotalOrder cmp → (k l : K) → (not (is_lt (cmp k l)) && not (is_lt (cmp l k))) ≡ is_eq (cmp l k)
  tied_key o k l = ap (λ r. not (is_lt r) && not (is_lt (cmp l k))) (o.antisymm k l) ∙ neither (cmp l k)

  module _ {X : Type 0} (key : X → K) where
    tied_at : IsTotalOrder cmp → (make : X → K → X) → ((x : X) (k : K) → key (make x k) ≡ k) → (xs ys : List X) → IsPermutation xs ys → IsStableByKey key cmp xs ys → (k : K) →
        filter (λ x. is_eq (cmp (key x) k)) ys ≡ filter (λ x. is_eq (cmp (key x) k)) xs
    tied_at o make at [] ys same stable k = ap (filter (λ x. is_eq (cmp (key x) k))) (empty ys (length_permutation [] ys same))
    tied_at o make at (x ∷ xs) ys same stable k =
        let p : X = make x k in
        let agree = λ (y : X). ap (λ l. not (is_lt (cmp l (key y))) && not (is_lt (cmp (key y) l))) (at x k) ∙ tied_key o k (key y) in
        let turn = filter_agree (ties (λ a b. is_lt (cmp (key a) (key b))) p) (λ y. is_eq (cmp (key y) k)) agree in
        sym (turn ys) ∙ stable p ∙ turn (x ∷ xs)

    -- what a stable sort by keys ensures, where something of each key can be made of another thing
    pub sorted_by_key : IsTotalOrder cmp → (make : X → K → X) → ((x : X) (k : K) → key (make x k) ≡ k) → (xs ys : List X) → IsPermutation xs ys → IsSortedByKey key cmp ys → IsStableByKey key cmp xs ys →
        IsByKey key cmp xs ys
    sorted_by_key o make at xs ys same rising stable = record { same = same; rising = rising; tied = tied_at o make at xs ys same stable }

seen_step : {P X : Type 0} (view : P → X) (b c : Bool) → b ≡ c → (p : P) (ps : List P) (xs : List X) → xs ≡ map view ps → cond b (view p ∷ xs) xs ≡ map view (cond c (p ∷ ps) ps)
seen_step view true true e p ps xs same = ap (λ ys. view p ∷ ys) same
seen_step view false false e p ps xs same = same
seen_step view true false e p ps xs same = cc
seen_step view false true e p ps xs same = cc

module _ {P X K : Type 0} (place : P → K) (of : X → K) (view : P → X) where
  abbrev pub IsSeen : P → Type 0
  IsSeen p = place p ≡ of (view p)

  module _ (cmp : K → K → Ordering) where
    seen_at : (ps : List P) → All IsSeen ps → (k : K) → filter (λ x. is_eq (cmp (of x) k)) (map view ps) ≡ map view (filter (λ p. is_eq (cmp (place p) k)) ps)
    seen_at [] all k = refl
    seen_at (p ∷ ps) all k =
        seen_step view (is_eq (cmp (of (view p)) k)) (is_eq (cmp (place p) k)) (ap (λ l. is_eq (cmp l k)) (sym (All-head IsSeen p ps all))) p (filter (λ q. is_eq (cmp (place q) k)) ps)
        (filter (λ x. is_eq (cmp (of x) k)) (map view ps)) (seen_at ps (All-tail IsSeen p ps all) k)

    rising_at : (qs : List P) → All IsSeen qs → IsSortedByKey place cmp qs → IsSortedByKey of cmp (map view qs)
    rising_at [] all rising k d low more = absurd (omega (arith, more))
    rising_at (q ∷ qs) all rising k d low more =
        let many : length (map view (q ∷ qs)) ≡ length (q ∷ qs) = length-map (q ∷ qs) view in
        let next : k + 1 < length (q ∷ qs) = omega (arith, more, many) in
        let here : k < length (q ∷ qs) = omega (arith, next) in
        let late : get_or (map view (q ∷ qs)) (k + 1) d ≡ view (get_or (q ∷ qs) (k + 1) q) = get_or-map view (q ∷ qs) (k + 1) q d next in
        let soon : get_or (map view (q ∷ qs)) k d ≡ view (get_or (q ∷ qs) k q) = get_or-map view (q ∷ qs) k q d here in
        ap (λ (x : X). is_lt (cmp (of x) (of (get_or (map view (q ∷ qs)) k d)))) late
        ∙ ap (λ (x : X). is_lt (cmp (of (view (get_or (q ∷ qs) (k + 1) q))) (of x))) soon
        ∙ ap (λ l. is_lt (cmp l (of (view (get_or (q ∷ qs) k q))))) (sym (all (k + 1) q next))
        ∙ ap (λ l. is_lt (cmp (place (get_or (q ∷ qs) (k + 1) q)) l)) (sym (all k q here))
        ∙ rising k q low next

    -- the same of what the elements are seen as
    pub seen_by_key : (ps qs : List P) → All IsSeen ps → IsByKey place cmp ps qs → IsByKey of cmp (map view ps) (map view qs)
    seen_by_key ps qs all by = record {
      same = IsPermutation-map view ps qs by.same;
      rising = rising_at qs (All-permutation IsSeen ps qs by.same all) by.rising;
      tied = λ k. seen_at qs (All-permutation IsSeen ps qs by.same all) k ∙ ap (map view) (by.tied k) ∙ sym (seen_at ps all k);
    }

    pub seen_in_order : (unsorted : Bool) (ps qs : List P) → All IsSeen ps → AreInAskedOrder unsorted place cmp ps qs → AreInAskedOrder unsorted of cmp (map view ps) (map view qs)
    seen_in_order true ps qs all by = seen_by_key ps qs all by
    seen_in_order false ps qs all by = ap (map view) by

module _ {K X : Type 0} (key : X → K) (cmp : K → K → Ordering) (xs ys : List X) where
  -- the order that is asked for
  pub ordered : (unsorted : Bool) → unsorted ≡ true → IsByKey key cmp xs ys → AreInAskedOrder unsorted key cmp xs ys
  ordered true e by = by
  ordered false e by = cc

  pub unordered : (unsorted : Bool) → unsorted ≡ false → ys ≡ xs → AreInAskedOrder unsorted key cmp xs ys
  unordered true e same = cc
  unordered false e same = same

-- things at places in order, which references lead to
pub listed_in_order : {X : Type 0} (of : X → Place) (unsorted : Bool) (xs : List X) (ps qs : List (Placed (Bor X))) (items : List (Bor X)) → map item_behind ps ≡ xs →
    All (λ (p : Placed (Bor X)). p.place ≡ of p.item.now) ps → AreInAskedOrder unsorted placed_at place_order ps qs → items ≡ map placed_item qs → AreInAskedOrder unsorted of place_order xs (referents items)
listed_in_order {X} of unsorted xs ps qs items listed all ordered same =
    let seen : referents items ≡ map item_behind qs = ap referents same ∙ map-map (λ (it : Bor X). it.now) placed_item qs in
    let by = seen_in_order placed_at of item_behind place_order unsorted ps qs all ordered in
    subst (λ (ys : List X). AreInAskedOrder unsorted of place_order xs ys) (sym seen) (subst (λ (zs : List X). AreInAskedOrder unsorted of place_order zs (map item_behind qs)) listed by)
