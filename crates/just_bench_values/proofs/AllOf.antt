-- All of several outcomes.
use Rattle.std.proofs.Common.{◌≡◌, refl, ◌∙◌, ap, ℕ, zero, suc, ◌+◌, ◌<◌, arith, List, [], ◌∷◌, ◌++◌, length, get_or, map, take, Option, None, Some}
use Rattle.std.specs.Option.{option_and_then, option_map}
use Rattle.std.proofs.lemmas.List.{map-append, take_more}
use Rattle.just_bench_values.specs.Values.{all_of}

module _ {A : Type 0} where
  abbrev and_more : Option A → Option (List A) → Option (List A)
  and_more first rest = option_and_then (λ x. option_map (λ xs. x ∷ xs) rest) first

  none_more : (o : Option A) → and_more o None ≡ None
  none_more None = refl
  none_more (Some x) = refl

  abbrev and_all : Option (List A) → Option (List A) → Option (List A)
  and_all front back = option_and_then (λ xs. option_map (λ ys. xs ++ ys) back) front

  all_nil : (back : Option (List A)) → back ≡ and_all (Some []) back
  all_nil None = refl
  all_nil (Some ys) = refl

  all_cons : (o : Option A) (front back : Option (List A)) → and_more o (and_all front back) ≡ and_all (and_more o front) back
  all_cons None front back = refl
  all_cons (Some x) None back = refl
  all_cons (Some x) (Some xs) None = refl
  all_cons (Some x) (Some xs) (Some ys) = refl

  all_append : (os ps : List (Option A)) → all_of (os ++ ps) ≡ and_all (all_of os) (all_of ps)
  all_append [] ps = all_nil (all_of ps)
  all_append (o ∷ os) ps = ap (and_more o) (all_append os ps) ∙ all_cons o (all_of os) (all_of ps)

  module _ {E : Type 0} (f : E → Option A) where
    -- one more that is there
    pub all_more : (es : List E) (i : ℕ) (d : E) (xs : List A) (x : A) → i < length es → all_of (map f (take i es)) ≡ Some xs → f (get_or es i d) ≡ Some x →
        all_of (map f (take (i + 1) es)) ≡ Some (xs ++ x ∷ [])
    all_more es i d xs x inside so there =
        ap (λ ys. all_of (map f ys)) (take_more es i d inside)
        ∙ ap all_of (map-append f (take i es) (get_or es i d ∷ []))
        ∙ all_append (map f (take i es)) (f (get_or es i d) ∷ [])
        ∙ (λ j. and_all (so j) (all_of (there j ∷ [])))

    -- one that is not there
    pub all_none : (es : List E) (i : ℕ) (d : E) → i < length es → f (get_or es i d) ≡ None → all_of (map f es) ≡ None
    all_none [] i d inside none = absurd (omega arith)
    all_none (e ∷ es) zero d inside none = ap (λ o. and_more o (all_of (map f es))) none
    all_none (e ∷ es) (suc i) d inside none = ap (and_more (f e)) (all_none es i d (omega arith) none) ∙ none_more (f e)
