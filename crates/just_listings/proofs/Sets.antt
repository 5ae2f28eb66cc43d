-- Texts that are put into a set.
use Rattle.std.proofs.Common.{◌≡◌, ◌⊎◌, inl, inr, ℕ, true, List, [], ◌∷◌, ◌++◌, refl, sym, ap, subst, ◌∙◌, arith}
use Rattle.std.specs.BTreeSet.{insert_key}
use Rattle.std.specs.Cmp.Lexicographic.{slice_cmp}
use Rattle.std.specs.List.{AllByRecursion, Contains}
use Rattle.std.specs.List.Sorted.{IsStrictlySortedBy}
use Rattle.std.specs.Ordering.{is_eq, match_ordering, nat_cmp, ordering_reverse}
use Rattle.std.specs.declared.cmp.Ordering.{Ordering}
use Rattle.std.specs.declared.cmp.Ordering.TheVariants.{Less, Equal, Greater}
use Rattle.std.proofs.lemmas.Cmp.{nat_list_cmp_total}
use Rattle.std.proofs.lemmas.List.Elements.{Contains-append_cases, Contains-append_left, Contains-append_right, Contains-push, Contains-push_cases}
use Rattle.std.proofs.lemmas.Map.Text.{is_eq-slice_cmp}
use Rattle.std.proofs.lemmas.Slice.Eq.{bytes_eq-Decides}
use Rattle.just_names.specs.Texts.{Text}

abbrev by_text : Text → Text → Ordering
by_text = slice_cmp nat_cmp

one_text : (x y : Text) → by_text x y ≡ Equal → x ≡ y
one_text x y e = (bytes_eq-Decides x y).0 (sym (is_eq-slice_cmp x y) ∙ ap is_eq e)

module _ {X : Type 0} where
  nothing_in : (x : X) → Contains [] x → ⊥
  nothing_in x c = omega (arith, c.1)

  first_or_later : (y x : X) (ys : List X) → Contains (y ∷ ys) x → (y ≡ x) ⊎ Contains ys x
  first_or_later y x ys c = elim (Contains-append_cases (y ∷ []) ys x c) [
    | inr later ↦ inr later
    | inl first ↦ elim (Contains-push_cases [] y x first) [ inl none ↦ absurd (nothing_in x none) | inr same ↦ inl same ]
  ]

  is_first : (y x : X) (ys : List X) → y ≡ x → Contains (y ∷ ys) x
  is_first y x ys e = subst (Contains (y ∷ ys)) e (Contains-append_left (y ∷ []) ys y (Contains-push [] y))

  is_later : (y x : X) (ys : List X) → Contains ys x → Contains (y ∷ ys) x
  is_later y x ys c = Contains-append_right (y ∷ []) ys x c

-- each of the others, and the one
holds_by : (P : Text → Type 0) (x : Text) (xs after : List Text) (k : Text) (o : Ordering) → P x → AllByRecursion P xs → P k → AllByRecursion P after → AllByRecursion P (match_ordering o (k ∷ x ∷ xs) (x ∷ xs) (x ∷ after))
holds_by P x xs after k Less here others one all = (one, (here, others))
holds_by P x xs after k Equal here others one all = (here, others)
holds_by P x xs after k Greater here others one all = (here, all)

holds_still : (P : Text → Type 0) (ks : List Text) (k : Text) → AllByRecursion P ks → P k → AllByRecursion P (insert_key by_text ks k)
holds_still P [] k all one = (one, tt)
holds_still P (x ∷ xs) k all one = holds_by P x xs (insert_key by_text xs k) k (by_text k x) all.0 all.1 one (holds_still P xs k all.1 one)

-- those above one are above another one below it
all_above : (k x : Text) (xs : List Text) → by_text k x ≡ Less → AllByRecursion (λ y. by_text x y ≡ Less) xs → AllByRecursion (λ y. by_text k y ≡ Less) xs
all_above k x [] less all = tt
all_above k x (y ∷ ys) less all = (nat_list_cmp_total.trans k x y less all.0, all_above k x ys less all.1)

rises_by : (x : Text) (xs after : List Text) (k : Text) (o : Ordering) → by_text k x ≡ o → IsStrictlySortedBy by_text (x ∷ xs) → (by_text x k ≡ Less → AllByRecursion (λ y. by_text x y ≡ Less) after) → IsStrictlySortedBy by_text after →
    IsStrictlySortedBy by_text (match_ordering o (k ∷ x ∷ xs) (x ∷ xs) (x ∷ after))
unfolding IsStrictlySortedBy
rises_by x xs after k Less e up above rising = ((e, all_above k x xs e up.0), up)
rises_by x xs after k Equal e up above rising = up
rises_by x xs after k Greater e up above rising = (above (nat_list_cmp_total.antisymm x k ∙ ap ordering_reverse e), rising)

-- a set still rises
pub still_rises : (ks : List Text) (k : Text) → IsStrictlySortedBy by_text ks → IsStrictlySortedBy by_text (insert_key by_text ks k)
unfolding IsStrictlySortedBy
still_rises [] k up = (tt, tt)
still_rises (x ∷ xs) k up = rises_by x xs (insert_key by_text xs k) k (by_text k x) refl up (λ less. holds_still (λ y. by_text x y ≡ Less) xs k up.0 less) (still_rises xs k up.1)

-- it has what it had, and the one that is put in
had_by : (x : Text) (xs after : List Text) (k y : Text) (o : Ordering) → by_text k x ≡ o → Contains (match_ordering o (k ∷ x ∷ xs) (x ∷ xs) (x ∷ after)) y → (Contains after y → Contains xs y ⊎ (k ≡ y)) → Contains (x ∷ xs) y ⊎ (k ≡ y)
had_by x xs after k y Less e c rest = elim (first_or_later k y (x ∷ xs) c) [ inl same ↦ inr same | inr later ↦ inl later ]
had_by x xs after k y Equal e c rest = inl c
had_by x xs after k y Greater e c rest = elim (first_or_later x y after c) [
  | inl same ↦ inl (is_first x y xs same)
  | inr later ↦ elim (rest later) [ inl had ↦ inl (is_later x y xs had) | inr same ↦ inr same ]
]

pub had : (ks : List Text) (k y : Text) → Contains (insert_key by_text ks k) y → Contains ks y ⊎ (k ≡ y)
had [] k y c = elim (first_or_later k y [] c) [ inl same ↦ inr same | inr none ↦ inl none ]
had (x ∷ xs) k y c = had_by x xs (insert_key by_text xs k) k y (by_text k x) refl c (had xs k y)

has_by : (x : Text) (xs after : List Text) (k y : Text) (o : Ordering) → by_text k x ≡ o → Contains (x ∷ xs) y ⊎ (k ≡ y) → (Contains xs y ⊎ (k ≡ y) → Contains after y) → Contains (match_ordering o (k ∷ x ∷ xs) (x ∷ xs) (x ∷ after)) y
has_by x xs after k y Less e (inl c) rest = is_later k y (x ∷ xs) c
has_by x xs after k y Less e (inr same) rest = is_first k y (x ∷ xs) same
has_by x xs after k y Equal e (inl c) rest = c
has_by x xs after k y Equal e (inr same) rest = is_first x y xs (sym (one_text k x e) ∙ same)
has_by x xs after k y Greater e (inl c) rest = elim (first_or_later x y xs c) [ inl same ↦ is_first x y after same | inr later ↦ is_later x y after (rest (inl later)) ]
has_by x xs after k y Greater e (inr same) rest = is_later x y after (rest (inr same))

pub has : (ks : List Text) (k y : Text) → Contains ks y ⊎ (k ≡ y) → Contains (insert_key by_text ks k) y
has [] k y (inl none) = absurd (nothing_in y none)
has [] k y (inr same) = is_first k y [] same
has (x ∷ xs) k y c = has_by x xs (insert_key by_text xs k) k y (by_text k x) refl c (has xs k y)

-- so it has what texts are that it had, and one more
pub one_put : (ks texts : List Text) (k y : Text) → (Contains ks y → Contains texts y) × (Contains texts y → Contains ks y) →
    (Contains (insert_key by_text ks k) y → Contains (texts ++ k ∷ []) y) × (Contains (texts ++ k ∷ []) y → Contains (insert_key by_text ks k) y)
one_put ks texts k y same = (
  (λ c. elim (had ks k y c) [ inl in_it ↦ Contains-append_left texts (k ∷ []) y (same.0 in_it) | inr is ↦ subst (Contains (texts ++ k ∷ [])) is (Contains-push texts k) ]),
  (λ c. has ks k y (elim (Contains-push_cases texts k y c) [ inl in_it ↦ inl (same.1 in_it) | inr is ↦ inr is ])),
)
