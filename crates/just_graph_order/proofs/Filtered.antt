-- What a filter keeps of a list of numbers: those that meet the test, each once, and in their order.
use Rattle.std.proofs.Common.{◌≡◌, cond, ℕ, zero, suc, ◌<◌, Bool, true, List, [], ◌∷◌, take, length, slice_index, ◌∙◌, ◌↔◌, inl, inr, refl, sym, ap, subst, arith}
use Rattle.std.proofs.lemmas.Bool.{false≢true, cases_Bool}
use Rattle.std.proofs.lemmas.List.{get_or_default}
use Rattle.std.specs.List.{filter, Contains}
use Rattle.just_graph.specs.Steps.{IsOnce}
use Rattle.just_graph.proofs.Members.{In, contained, is_in}
use Rattle.just_graph.proofs.Leveling.{Once, is_once}

module _ (p : ℕ → Bool) where
  in_filter : (x : ℕ) (xs : List ℕ) → In x xs → p x ≡ true → In x (filter p xs)
  in_filter x [] h t = absurd h
  in_filter x (y ∷ ys) (inl e) t = subst (λ b. In x (cond b (y ∷ filter p ys) (filter p ys))) (sym (ap p (sym e) ∙ t)) (inl e)
  in_filter x (y ∷ ys) (inr h) t = elim (cases_Bool (p y)) [
    | inl u ↦ subst (λ b. In x (cond b (y ∷ filter p ys) (filter p ys))) (sym u) (inr (in_filter x ys h t))
    | inr u ↦ subst (λ b. In x (cond b (y ∷ filter p ys) (filter p ys))) (sym u) (in_filter x ys h t)
  ]

  from_filter : (x : ℕ) (xs : List ℕ) → In x (filter p xs) → In x xs × (p x ≡ true)
  from_filter x [] h = absurd h
  from_filter x (y ∷ ys) h = elim (cases_Bool (p y)) [
    | inl u ↦ elim (subst (λ b. In x (cond b (y ∷ filter p ys) (filter p ys))) u h) [
      | inl e ↦ (inl e, ap p e ∙ u)
      | inr i ↦ let r = from_filter x ys i in (inr r.0, r.1)
    ]
    | inr u ↦ let r = from_filter x ys (subst (λ b. In x (cond b (y ∷ filter p ys) (filter p ys))) u h) in (inr r.0, r.1)
  ]

  pub contains_filter : (xs : List ℕ) (a : ℕ) → Contains (filter p xs) a ↔ (Contains xs a × (p a ≡ true))
  contains_filter xs a = (
    λ (c : Contains (filter p xs) a). let r = from_filter a xs (is_in a (filter p xs) c) in (contained a xs r.0, r.1),
    λ (c : Contains xs a × (p a ≡ true)). contained a (filter p xs) (in_filter a xs (is_in a xs c.0) c.1),
  )

  filter_apart : (xs : List ℕ) → Once xs → Once (filter p xs)
  filter_apart [] o = tt
  filter_apart (x ∷ xs) o = elim (cases_Bool (p x)) [
    | inl u ↦ subst (λ b. Once (cond b (x ∷ filter p xs) (filter p xs))) (sym u) (λ i. o.0 (from_filter x xs i).0, filter_apart xs o.1)
    | inr u ↦ subst (λ b. Once (cond b (x ∷ filter p xs) (filter p xs))) (sym u) (filter_apart xs o.1)
  ]

  pub once_filter : (xs : List ℕ) → IsOnce xs → IsOnce (filter p xs)
  once_filter xs o = is_once (filter p xs) (filter_apart xs (once_apart xs o))
    where
      once_apart : (xs : List ℕ) → IsOnce xs → Once xs
      once_apart [] o = tt
      once_apart (x ∷ xs) o = (
        λ i. let c : Contains xs x = contained x xs i in o 0 (suc c.0) (omega arith) (omega (arith, c.1)) (sym (get_or_default xs c.0 0 x c.1 ∙ c.2)),
        once_apart xs (λ i j h l. o (suc i) (suc j) (omega arith) (omega arith)),
      )

  -- a place in `xs` of the k-th number of `fs`: what stands before it there and meets the test stands before it in `fs`
  abbrev At : List ℕ → List ℕ → ℕ → Type 0
  At xs fs k = (j : ℕ) × (j < length xs) × (slice_index xs j ≡ slice_index fs k) × ((b : ℕ) → In b (take j xs) → p b ≡ true → In b (take k fs))

  place : (xs : List ℕ) (k : ℕ) → k < length (filter p xs) → At xs (filter p xs) k
  place [] k h = absurd (omega arith)
  place (x ∷ xs) k h = elim (cases_Bool (p x)) [
    | inl u ↦ subst (λ b. At (x ∷ xs) (cond b (x ∷ filter p xs) (filter p xs)) k) (sym u) (kept (place xs) k (subst (λ b. k < length (cond b (x ∷ filter p xs) (filter p xs))) u h))
    | inr u ↦
        let r = place xs k (subst (λ b. k < length (cond b (x ∷ filter p xs) (filter p xs))) u h) in
        subst (λ b. At (x ∷ xs) (cond b (x ∷ filter p xs) (filter p xs)) k) (sym u) (
          suc r.0,
          omega (arith, r.1),
          r.2,
          λ b i t. elim i [
            | inl e ↦ absurd (false≢true (sym u ∙ (ap p (sym e) ∙ t)))
            | inr i' ↦ r.3 b i' t
          ],
        )
  ]
    where
      kept : ((m : ℕ) → m < length (filter p xs) → At xs (filter p xs) m) → (k : ℕ) → k < length (x ∷ filter p xs) → At (x ∷ xs) (x ∷ filter p xs) k
      kept before zero l = (0, omega arith, refl, λ b i t. absurd i)
      kept before (suc m) l = let r = before m (omega arith) in (suc r.0, omega (arith, r.1), r.2, λ b i t. elim i [ inl e ↦ inl e | inr i' ↦ inr (r.3 b i' t) ])

  pub filter_place : (xs : List ℕ) (k : ℕ) → k < length (filter p xs) → (j : ℕ) × (j < length xs) × (slice_index xs j ≡ slice_index (filter p xs) k) × ((b : ℕ) → Contains (take j xs) b → p b ≡ true → Contains (take k (filter p xs)) b)
  filter_place xs k h = let r = place xs k h in (r.0, r.1, r.2, λ b c t. contained b (take k (filter p xs)) (r.3 b (is_in b (take r.0 xs) c) t))
