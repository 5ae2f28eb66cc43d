-- A list that is made of what each element of another gives, element after element.
use Rattle.std.proofs.Common.{◌≡◌, ◌∙◌, ℕ, suc, ◌+◌, ◌<◌, ◌≤◌, ◌||◌, Bool, true, false, List, [], ◌∷◌, ◌++◌, Some, add-one, ap, append_assoc, arith, drop, drop-cons, get_or, length, refl, sym}
use Rattle.std.specs.Borrow.{Bor}
use Rattle.just_module_contents.specs.Recipes.{lent}
use Rattle.std.specs.List.{Contains, flat_map, list_any, slice_get}
use Rattle.std.proofs.lemmas.List.{append-nil, drop_all, get_or-map, length-map, map-append}
use Rattle.std.proofs.lemmas.Option.{get_or_from_slice_get, slice_get_read, slice_get_within}

-- the rest from a place on
pub drop_at : {A : Type 0} (xs : List A) (i : ℕ) (x : A) → slice_get xs i ≡ Some x → drop i xs ≡ x ∷ drop (i + 1) xs
drop_at xs i x at =
    drop-cons xs i x (slice_get_within xs i x at)
    ∙ ap (λ y. y ∷ drop (suc i) xs) (get_or_from_slice_get xs i x x at)
    ∙ ap (λ n. x ∷ drop n xs) (sym (add-one i))

module _ {A B : Type 0} (f : A → List B) (all : List B) (xs : List A) where
  pub one_given : (i : ℕ) (x : A) (old new : List B) → all ≡ old ++ flat_map f (drop i xs) → slice_get xs i ≡ Some x → new ≡ old ++ f x → all ≡ new ++ flat_map f (drop (i + 1) xs)
  one_given i x old new so at is =
      so ∙ ap (λ ys. old ++ flat_map f ys) (drop_at xs i x at)
      ∙ sym (append_assoc old (f x) (flat_map f (drop (i + 1) xs)))
      ∙ ap (λ ys. ys ++ flat_map f (drop (i + 1) xs)) (sym is)

  pub all_given : (i : ℕ) (old : List B) → all ≡ old ++ flat_map f (drop i xs) → length xs ≤ i → all ≡ old
  all_given i old so past = so ∙ ap (λ ys. old ++ flat_map f ys) (drop_all i xs past) ∙ append-nil old

-- an element that a loop has
pub at_item : {A : Type 0} (xs : List A) (i : ℕ) (x : A) → i < length xs → x ≡ get_or xs i x → slice_get xs i ≡ Some x
at_item xs i x inside is = slice_get_read xs (length xs) i x refl inside is

pub is_there : {A : Type 0} (xs : List A) (i : ℕ) (x : A) → i < length xs → x ≡ get_or xs i x → Contains xs x
is_there xs i x inside is = (i, inside, sym is)

module _ {A : Type 0} where
  -- one more element
  pub one_taken : (all : List A) (xs : List A) (i : ℕ) (x : A) (old new : List A) → all ≡ old ++ drop i xs → slice_get xs i ≡ Some x → new ≡ old ++ x ∷ [] → all ≡ new ++ drop (i + 1) xs
  one_taken all xs i x old new so at is =
      so ∙ ap (λ ys. old ++ ys) (drop_at xs i x at) ∙ sym (append_assoc old (x ∷ []) (drop (i + 1) xs)) ∙ ap (λ ys. ys ++ drop (i + 1) xs) (sym is)

  pub all_taken : (all : List A) (xs : List A) (i : ℕ) (old : List A) → all ≡ old ++ drop i xs → length xs ≤ i → all ≡ old
  all_taken all xs i old so past = so ∙ ap (λ ys. old ++ ys) (drop_all i xs past) ∙ append-nil old

  -- one more reference
  pub lent_more : (old new : List (Bor A)) (r : Bor A) → new ≡ old ++ r ∷ [] → lent new ≡ lent old ++ r.now ∷ []
  lent_more old new r is = ap lent is ∙ map-append (λ (b : Bor A). b.now) old (r ∷ [])

  -- the first, and then the rest
  pub first_lent : (old new : List (Bor A)) (r : Bor A) (rest items : List A) → new ≡ old ++ r ∷ [] → items ≡ rest → lent old ++ r.now ∷ rest ≡ lent new ++ items
  first_lent old new r rest items is same =
      sym (append_assoc (lent old) (r.now ∷ []) rest) ∙ (λ k. sym (lent_more old new r is) k ++ sym same k)

-- whether one of the rest passes
module _ {A : Type 0} (test : A → Bool) (xs : List A) where
  pub any_rest : (i : ℕ) (x : A) → slice_get xs i ≡ Some x → list_any test (drop i xs) ≡ (test x || list_any test (drop (i + 1) xs))
  any_rest i x at = ap (list_any test) (drop_at xs i x at)

  pub any_more : (i : ℕ) (x : A) (b : Bool) → list_any test xs ≡ list_any test (drop i xs) → slice_get xs i ≡ Some x → b ≡ test x → b ≡ false → list_any test xs ≡ list_any test (drop (i + 1) xs)
  any_more i x b so at is fails = so ∙ any_rest i x at ∙ ap (λ t. t || list_any test (drop (i + 1) xs)) (sym is ∙ fails)

  pub any_here : (i : ℕ) (x : A) (b : Bool) → list_any test xs ≡ list_any test (drop i xs) → slice_get xs i ≡ Some x → b ≡ test x → b ≡ true → true ≡ list_any test xs
  any_here i x b so at is passes = sym (so ∙ any_rest i x at ∙ ap (λ t. t || list_any test (drop (i + 1) xs)) (sym is ∙ passes))

  pub any_none : (i : ℕ) → list_any test xs ≡ list_any test (drop i xs) → length xs ≤ i → false ≡ list_any test xs
  any_none i so past = sym (so ∙ ap (list_any test) (drop_all i xs past))

-- what is lent at a place
pub lent_at : {A : Type 0} (rs : List (Bor A)) (i : ℕ) (r : Bor A) → i < length rs → r ≡ get_or rs i r → slice_get (lent rs) i ≡ Some r.now
lent_at {A} rs i r inside is =
    at_item (lent rs) i r.now (omega (arith, length-map rs (λ (b : Bor A). b.now))) (ap (λ (b : Bor A). b.now) is ∙ sym (get_or-map (λ (b : Bor A). b.now) rs i r r.now inside))
