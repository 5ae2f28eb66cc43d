-- Recipes by their places.
use Rattle.std.proofs.Common.{◌≡◌, ℕ, zero, suc, ◌+◌, ◌<◌, ◌≢◌, List, [], ◌∷◌, ◌++◌, map, take, length, get_or, Option, Some, sym, ◌∙◌, ap, subst, arith, inl, inr, eqb-true, eq-eqb}
use Rattle.std.specs.List.{All, Contains}
use Rattle.std.specs.Prelude.{slice_index, ◌==◌}
use Rattle.std.proofs.lemmas.Bool.{cases_Bool, cond-true, cond-false, true≢false, ne_eqb}
use Rattle.std.proofs.lemmas.List.Elements.{All-nil, All-cons, All-append, Contains-append_right}
use Rattle.std.proofs.lemmas.List.{append-nil, map-append, take_more, get_or-map}
use Rattle.std.proofs.lemmas.Map.Made.{Contains-tail}
use Rattle.just_recipe.specs.declared.dependency.Dependency.{Dependency}
use Rattle.just_recipe.specs.declared.recipe.Recipe.{Recipe}
use Rattle.just_recipe.specs.Recipes.{numbers, find_number, IsPlaceOf, IsNumberIndex}
use Rattle.just_recipes.specs.Places.{place_of}
use Rattle.just_recipes.proofs.RecipeLemmas.{once}

-- a number of the list has a place in it, whatever comes after
pub place-within : (xs ys : List (Recipe Dependency)) (n : ℕ) → Contains (numbers xs) n → place_of (xs ++ ys) n < length xs
place-within [] ys n c = let h = c.1 in absurd (omega arith)
place-within (x ∷ xs) ys n c = elim (cases_Bool (x.number.0 == n)) [
  | inl h ↦ subst (λ p. p < length (x ∷ xs)) (sym (cond-true (x.number.0 == n) 0 (suc (place_of (xs ++ ys) n)) h)) (omega arith)
  | inr h ↦
      let apart : x.number.0 ≡ n → ⊥ = λ e. true≢false (sym (eq-eqb x.number.0 n e) ∙ h) in
      let k : place_of (xs ++ ys) n < length xs = place-within xs ys n (Contains-tail x.number.0 (numbers xs) n apart c) in
      subst (λ p. p < length (x ∷ xs)) (sym (cond-false (x.number.0 == n) 0 (suc (place_of (xs ++ ys) n)) h)) (omega arith)
]

pub place-in : (rs : List (Recipe Dependency)) (n : ℕ) → Contains (numbers rs) n → place_of rs n < length rs
place-in rs n c = subst (λ xs. place_of xs n < length rs) (append-nil rs) (place-within rs [] n c)

-- the first place of a number is its place
pub place-first : (rs : List (Recipe Dependency)) (n p : ℕ) → p < length rs → slice_index (numbers rs) p ≡ n → ((i : ℕ) → i < p → slice_index (numbers rs) i ≢ n) → p ≡ place_of rs n
place-first [] n p h e first = absurd (omega arith)
place-first (x ∷ rs) n zero h e first = sym (cond-true (x.number.0 == n) 0 (suc (place_of rs n)) (eq-eqb x.number.0 n e))
place-first (x ∷ rs) n (suc p) h e first =
    ap suc (place-first rs n p (omega arith) e (λ i l. first (suc i) (omega arith)))
    ∙ sym (cond-false (x.number.0 == n) 0 (suc (place_of rs n)) (ne_eqb x.number.0 n (first 0 (omega arith))))

pub place-is : (inside rs : List (Recipe Dependency)) (index : ℕ → Option ℕ) (n p : ℕ) → inside ≡ rs → IsNumberIndex inside index → IsPlaceOf rs n p → p ≡ place_of rs n
place-is inside rs index n p same indexed at =
    let here : IsNumberIndex rs index = subst (λ xs. IsNumberIndex xs index) same indexed in
    place-first rs n p at.0 at.1 (λ i h e.
    let in_i : i < length rs = omega (arith, at.0) in
    let equal : i ≡ p = once rs index here i p in_i at.0 (e ∙ sym at.1) in
    omega arith)

-- a number that is found is one of the numbers
pub found-number : (rs : List (Recipe Dependency)) (n : ℕ) (r : Recipe Dependency) → find_number rs n ≡ Some r → Contains (numbers rs) n
found-number [] n r e = cc
found-number (x ∷ rs) n r e = elim (cases_Bool (x.number.0 == n)) [
  | inl h ↦ (0, omega arith, eqb-true x.number.0 n h)
  | inr h ↦ Contains-append_right (x.number.0 ∷ []) (numbers rs) n (found-number rs n r (rw h at e))
]

-- the recipe that is read at a place has the number
pub read-place : (inside rs : List (Recipe Dependency)) (n p : ℕ) (r : Recipe Dependency) → inside ≡ rs → p < length inside → r ≡ get_or inside p r → r.number.0 ≡ n → IsPlaceOf rs n p
read-place inside rs n p r same within read is = subst (λ xs. IsPlaceOf xs n p) same
    (within, get_or-map (λ (r : Recipe Dependency). r.number.0) inside p r 0 within ∙ ap (λ (r : Recipe Dependency). r.number.0) (sym read) ∙ is)

-- one more of a list that is gone through
pub map-more : {A B : Type 0} (f : A → B) (i : ℕ) (xs : List A) (x : A) (old new : List B) (y : B) → i < length xs → x ≡ get_or xs i x → old ≡ map f (take i xs) → new ≡ old ++ y ∷ [] → y ≡ f x → new ≡ map f (take (i + 1) xs)
map-more f i xs x old new y h is before pushed named =
    pushed ∙ ap (λ ys. ys ++ y ∷ []) before ∙ ap (λ z. map f (take i xs) ++ z ∷ []) (named ∙ ap f is)
    ∙ sym (map-append f (take i xs) (get_or xs i x ∷ [])) ∙ ap (map f) (sym (take_more xs i x h))

pub all-more : {A : Type 0} (P : A → Type 0) (old new : List A) (y : A) → All P old → new ≡ old ++ y ∷ [] → P y → All P new
all-more P old new y h e p = subst (All P) (sym e) (All-append P old (y ∷ []) h (All-cons P y [] p (All-nil P)))
