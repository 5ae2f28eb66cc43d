-- What is kept of a list, and what holds of it.
use Rattle.std.proofs.Common.{◌≡◌, ◌<◌, ◌≤◌, ℕ, zero, suc, ◌+◌, Bool, true, false, not, ◌||◌, List, [], ◌∷◌, ◌++◌, map, length, drop, Some, refl, sym, ap, subst, ◌∙◌, arith, inl, inr}
use Rattle.std.specs.Prelude.{if◌then◌else◌}
use Rattle.std.specs.List.{All, Contains, list_any, slice_get}
use Rattle.std.proofs.lemmas.Bool.{cases_lt, eq-eqb, false≢true, lt-ltb}
use Rattle.std.proofs.lemmas.List.{append_assoc, append-nil, drop-map, drop_all, drop_more, get_or-map}
use Rattle.std.proofs.lemmas.List.Elements.{All-contains, Contains-get_or}
use Rattle.std.proofs.lemmas.List.Folds.{list_any_at}
use Rattle.std.proofs.lemmas.Option.{get_or_from_slice_get, slice_get_within}
use Rattle.std.proofs.lemmas.Slice.Eq.{bytes_eq-Decides}
use Rattle.just_graph.specs.Steps.{IsOnce}
use Rattle.just_graph.proofs.Leveling.{Once, is_once}
use Rattle.just_graph.proofs.Members.{In, contained, from_map, in_map, is_in, all_in}
use Rattle.just_names.specs.Texts.{Text}
use Rattle.just_recipe.specs.declared.dependency.UnresolvedDependency.{UnresolvedDependency}
use Rattle.just_recipe.specs.declared.recipe.Recipe.{Recipe}
use Rattle.just_names.specs.Index.{AreDifferent, name_at}
use Rattle.just_module_contents.specs.Kept.{claim_of_recipe, gives_way, kept, kept_recipes, left_of, lies_above, lies_beside}
use Rattle.just_module_contents.specs.loops.Kept.{claim_at, no_claim, stays}
use Rattle.just_module_contents.specs.Recipes.{names_of}
use Rattle.just_module_contents.specs.Resolved.{unresolved_numbers}
use Rattle.just_module_contents.specs.declared.precedence.Claim.{Claim}
use Rattle.just_module_contents.proofs.Once.{from_once}

-- an element that passes no test which none passes
none_passes : {A : Type 0} (p : A → Bool) (xs : List A) (x : A) → In x xs → list_any p xs ≡ false → p x ≡ true → ⊥
none_passes p xs x h none t =
    let c : Contains xs x = contained x xs h in
    false≢true (sym none ∙ list_any_at p xs c.0 x c.1 (ap p c.2 ∙ t))

first_false : (a b : Bool) → (a || b) ≡ false → a ≡ false
first_false true b e = e
first_false false b e = refl

second_false : (a b : Bool) → (a || b) ≡ false → b ≡ false
second_false true b e = cc
second_false false b e = e

not_false : (b : Bool) → not b ≡ false → b ≡ true
not_false true e = refl
not_false false e = sym e

not_true : (b : Bool) → not b ≡ true → b ≡ false
not_true true e = sym e
not_true false e = refl

module _ {A : Type 0} (claim : A → Claim) where
  module _ (all : List A) where
    -- one more element, by what its test says
    left_if : (b : Bool) (x : A) (xs : List A) → gives_way (map claim all) (map claim xs) (claim x) ≡ b → left_of claim all (x ∷ xs) ≡ (if b then left_of claim all xs else x ∷ left_of claim all xs)
    left_if b x xs e = ap (λ t. if t then left_of claim all xs else x ∷ left_of claim all xs) e

    in_if : (b : Bool) (x y : A) (xs ys : List A) → (In y ys → In y xs) → In y (if b then ys else x ∷ ys) → In y (x ∷ xs)
    in_if true x y xs ys f h = inr (f h)
    in_if false x y xs ys f (inl e) = inl e
    in_if false x y xs ys f (inr h) = inr (f h)

    -- what is left of a list stands in it
    pub left_in : (xs : List A) (y : A) → In y (left_of claim all xs) → In y xs
    left_in [] y h = h
    left_in (x ∷ xs) y h = in_if (gives_way (map claim all) (map claim xs) (claim x)) x y xs (left_of claim all xs) (left_in xs y) h

    -- and none of its name lies above it
    least_if : (b : Bool) (x y : A) (xs ys : List A) → gives_way (map claim all) (map claim xs) (claim x) ≡ b → (In y ys → list_any (lies_above (claim y)) (map claim all) ≡ false) → In y (if b then ys else x ∷ ys) → list_any (lies_above (claim y)) (map claim all) ≡ false
    least_if true x y xs ys e f h = f h
    least_if false x y xs ys e f (inl same) = subst (λ (z : A). list_any (lies_above (claim z)) (map claim all) ≡ false) (sym same) (first_false _ _ e)
    least_if false x y xs ys e f (inr h) = f h

    left_least : (xs : List A) (y : A) → In y (left_of claim all xs) → list_any (lies_above (claim y)) (map claim all) ≡ false
    left_least [] y h = absurd h
    left_least (x ∷ xs) y h = least_if (gives_way (map claim all) (map claim xs) (claim x)) x y xs (left_of claim all xs) refl (left_least xs y) h

    not_less : (x y : A) → In x all → In y all → (claim x).name ≡ (claim y).name → list_any (lies_above (claim y)) (map claim all) ≡ false → (claim x).depth < (claim y).depth → ⊥
    not_less x y in_x in_y same none less =
        none_passes (lies_above (claim y)) (map claim all) (claim x) (in_map claim x all in_x) none (rw ((bytes_eq-Decides _ _).1 same, lt-ltb _ _ less) refl)

    -- no other of its name is left after one
    other_left : (x y : A) (xs : List A) → In x all → ((z : A) → In z xs → In z all) → gives_way (map claim all) (map claim xs) (claim x) ≡ false → In y (left_of claim all xs) → (claim x).name ≡ (claim y).name → ⊥
    other_left x y xs in_x in_xs none h same =
        let there : In y xs = left_in xs y h in
        elim (cases_lt (claim x).depth (claim y).depth) [
          | inl less ↦ not_less x y in_x (in_xs y there) same (left_least xs y h) less
          | inr more ↦ elim (cases_lt (claim y).depth (claim x).depth) [
            | inl less ↦ not_less y x (in_xs y there) in_x (sym same) (first_false _ _ none) less
            | inr equal ↦
                let depth : (claim y).depth ≡ (claim x).depth = omega (arith, more, equal) in
                none_passes (lies_beside (claim x)) (map claim xs) (claim y) (in_map claim y xs there) (second_false _ _ none) (rw ((bytes_eq-Decides _ _).1 (sym same), eq-eqb _ _ depth) refl)
          ]
        ]

    abbrev name : A → Text
    name x = (claim x).name

    -- names, of which none stands twice
    abbrev Apart : List Text → Type 0
    Apart [] = Unit {0}
    Apart (n ∷ ns) = (In n ns → ⊥) × Apart ns

    apart_if : (b : Bool) (x : A) (xs : List A) → In x all → ((z : A) → In z xs → In z all) → gives_way (map claim all) (map claim xs) (claim x) ≡ b → Apart (map name (left_of claim all xs)) → Apart (map name (if b then left_of claim all xs else x ∷ left_of claim all xs))
    apart_if true x xs in_x in_xs e rest = rest
    apart_if false x xs in_x in_xs e rest = (λ h. let y = from_map name (name x) (left_of claim all xs) h in other_left x y.0 xs in_x in_xs e y.1 y.2, rest)

    apart_left : (xs : List A) → ((z : A) → In z xs → In z all) → Apart (map name (left_of claim all xs))
    apart_left [] in_xs = tt
    apart_left (x ∷ xs) in_xs = apart_if (gives_way (map claim all) (map claim xs) (claim x)) x xs (in_xs x (inl refl)) (λ z h. in_xs z (inr h)) refl (apart_left xs (λ z h. in_xs z (inr h)))

    apart_different : (ns : List Text) → Apart ns → AreDifferent ns
    apart_different [] apart i j l h = absurd (omega (arith, h))
    apart_different (n ∷ ns) apart zero zero l h = absurd (omega (arith, l))
    apart_different (n ∷ ns) apart zero (suc j) l h = λ e. apart.0 (subst (λ x. In x ns) (sym e) (is_in (name_at ns j) ns (Contains-get_or ns j [] (omega (arith, h)))))
    apart_different (n ∷ ns) apart (suc i) zero l h = absurd (omega (arith, l))
    apart_different (n ∷ ns) apart (suc i) (suc j) l h = apart_different ns apart.1 i j (omega (arith, l)) (omega (arith, h))

    -- the names of what is left are different
    pub left_different : (xs : List A) → ((z : A) → In z xs → In z all) → AreDifferent (map name (left_of claim all xs))
    left_different xs in_xs = apart_different (map name (left_of claim all xs)) (apart_left xs in_xs)

  -- one after another
  module _ (xs : List A) (i : ℕ) (x : A) (at : slice_get xs i ≡ Some x) where
    inside : i < length xs
    inside = slice_get_within xs i x at

    rest_is : drop i xs ≡ x ∷ drop (i + 1) xs
    rest_is = drop_more xs i x inside ∙ ap (λ y. y ∷ drop (i + 1) xs) (get_or_from_slice_get xs i x x at)

    test_is : gives_way (map claim xs) (map claim (drop (i + 1) xs)) (claim x) ≡ gives_way (map claim xs) (drop (i + 1) (map claim xs)) (claim_at (map claim xs) i)
    test_is =
        let later = drop-map claim (i + 1) xs in
        let here : claim_at (map claim xs) i ≡ claim x = get_or-map claim xs i x no_claim inside ∙ ap claim (get_or_from_slice_get xs i x x at) in
        λ k. gives_way (map claim xs) (sym later k) (sym here k)

    -- one that stays, and one that does not
    pub left_stays : stays (map claim xs) i ≡ true → left_of claim xs (drop i xs) ≡ x ∷ left_of claim xs (drop (i + 1) xs)
    left_stays e = ap (left_of claim xs) rest_is ∙ left_if xs false x (drop (i + 1) xs) (test_is ∙ not_true _ e)

    pub left_goes : stays (map claim xs) i ≡ false → left_of claim xs (drop i xs) ≡ left_of claim xs (drop (i + 1) xs)
    left_goes e = ap (left_of claim xs) rest_is ∙ left_if xs true x (drop (i + 1) xs) (test_is ∙ not_false _ e)

  -- what is kept so far, with what is left
  abbrev pub KeepsSoFar : List A → ℕ → List A → Type 0
  KeepsSoFar xs i made = made ++ left_of claim xs (drop i xs) ≡ kept claim xs

  module _ (xs : List A) (i : ℕ) (x : A) (at : slice_get xs i ≡ Some x) (made : List A) (so : KeepsSoFar xs i made) where
    pub keeps_more : (more : List A) → stays (map claim xs) i ≡ true → more ≡ made ++ x ∷ [] → KeepsSoFar xs (i + 1) more
    keeps_more more e is = ap (λ ys. ys ++ left_of claim xs (drop (i + 1) xs)) is ∙ append_assoc made (x ∷ []) (left_of claim xs (drop (i + 1) xs)) ∙ ap (λ ys. made ++ ys) (sym (left_stays xs i x at e)) ∙ so

    pub keeps_same : stays (map claim xs) i ≡ false → KeepsSoFar xs (i + 1) made
    keeps_same e = ap (λ ys. made ++ ys) (sym (left_goes xs i x at e)) ∙ so

  pub keeps_all : (xs : List A) (i : ℕ) (made : List A) → length xs ≤ i → KeepsSoFar xs i made → made ≡ kept claim xs
  keeps_all xs i made end so = sym (append-nil made) ∙ ap (λ ys. made ++ left_of claim xs ys) (sym (drop_all i xs end)) ∙ so

-- recipes that are kept have different names
pub kept_different : (rs : List (Recipe UnresolvedDependency)) → AreDifferent (names_of (kept_recipes rs))
kept_different rs = left_different claim_of_recipe rs rs (λ z h. h)

-- each is one of all
pub kept_in : (rs : List (Recipe UnresolvedDependency)) (r : Recipe UnresolvedDependency) → In r (kept_recipes rs) → In r rs
kept_in rs = left_in claim_of_recipe rs rs

-- what holds of all holds of those
pub kept_all : (P : Recipe UnresolvedDependency → Type 0) (rs : List (Recipe UnresolvedDependency)) → All P rs → All P (kept_recipes rs)
kept_all P rs all = all_in P (kept_recipes rs) (λ r h. All-contains P rs r all (contained r rs (kept_in rs r h)))

-- their numbers are among those of all
pub kept_number : (rs : List (Recipe UnresolvedDependency)) (n : ℕ) → In n (unresolved_numbers (kept_recipes rs)) → In n (unresolved_numbers rs)
kept_number rs n h =
    let r = from_map (λ (r : Recipe UnresolvedDependency). r.number.0) n (kept_recipes rs) h in
    subst (λ m. In m (unresolved_numbers rs)) (sym r.2) (in_map (λ (r : Recipe UnresolvedDependency). r.number.0) r.0 rs (kept_in rs r.0 r.1))

-- and stand once where those do
module _ (all : List (Recipe UnresolvedDependency)) where
  left_number : (xs : List (Recipe UnresolvedDependency)) (n : ℕ) → In n (unresolved_numbers (left_of claim_of_recipe all xs)) → In n (unresolved_numbers xs)
  left_number xs n h =
      let r = from_map (λ (r : Recipe UnresolvedDependency). r.number.0) n (left_of claim_of_recipe all xs) h in
      subst (λ m. In m (unresolved_numbers xs)) (sym r.2) (in_map (λ (r : Recipe UnresolvedDependency). r.number.0) r.0 xs (left_in claim_of_recipe all xs r.0 r.1))

  once_if : (b : Bool) (x : Recipe UnresolvedDependency) (ys : List (Recipe UnresolvedDependency)) → (In x.number.0 (unresolved_numbers ys) → ⊥) → Once (unresolved_numbers ys) → Once (unresolved_numbers (if b then ys else x ∷ ys))
  once_if true x ys fresh once = once
  once_if false x ys fresh once = (fresh, once)

  once_left : (xs : List (Recipe UnresolvedDependency)) → Once (unresolved_numbers xs) → Once (unresolved_numbers (left_of claim_of_recipe all xs))
  once_left [] once = tt
  once_left (x ∷ xs) once = once_if (gives_way (map claim_of_recipe all) (map claim_of_recipe xs) (claim_of_recipe x)) x (left_of claim_of_recipe all xs) (λ h. once.0 (left_number xs x.number.0 h)) (once_left xs once.1)

pub kept_once : (rs : List (Recipe UnresolvedDependency)) → IsOnce (unresolved_numbers rs) → IsOnce (unresolved_numbers (kept_recipes rs))
kept_once rs once = is_once (unresolved_numbers (kept_recipes rs)) (once_left rs rs (from_once (unresolved_numbers rs) once))
