-- The walk with a table gives the first occurrences of the unshared expansion.
use Rattle.std.proofs.Common.{◌≡◌, ℕ, zero, suc, ◌<◌, ◌≤◌, Bool, true, false, ◌||◌, List, [], ◌∷◌, ◌++◌, refl, sym, ◌∙◌, ap, subst, inl, inr, ◌⊎◌, arith}
use Rattle.std.specs.Prelude.{flat_map}
use Rattle.std.proofs.lemmas.Bool.{or_cases, or_left, or_right, true≢false}
use Rattle.just_graph.proofs.Members.{In}
use Rattle.just_execution.specs.Firsts.{stands_among}
use Rattle.just_execution.specs.Expansion.{Part, Prepare, Block, same_part, expansion}
use Rattle.just_execution.proofs.Walks.{blocks}
use Rattle.just_execution.proofs.Keeps.{Exact, has-append}

abbrev pub pair_of : {P : Type 0} → Part P → P
pair_of (Prepare p) = p
pair_of (Block p) = p

pub blocks-append : {P : Type 0} → (xs ys : List (Part P)) → blocks (xs ++ ys) ≡ blocks xs ++ blocks ys
blocks-append [] ys = refl
blocks-append (Prepare p ∷ xs) ys = blocks-append xs ys
blocks-append (Block p ∷ xs) ys = ap (λ t. p ∷ t) (blocks-append xs ys)

-- all of them are of lower rank
abbrev pub Below : {P : Type 0} → (P → ℕ) → ℕ → List P → Type 0
Below rank k [] = Unit {0}
Below rank k (q ∷ qs) = (rank q < k) × Below rank k qs

part-itself : {P : Type 0} (same : P → P → Bool) → Exact same → (x : Part P) → same_part same x x ≡ true
part-itself same e (Prepare p) = e.itself p
part-itself same e (Block p) = e.itself p

part-only : {P : Type 0} (same : P → P → Bool) → Exact same → (x y : Part P) → same_part same x y ≡ true → x ≡ y
part-only same e (Prepare p) (Prepare q) h = ap (λ r. Prepare r) (e.only p q h)
part-only same e (Prepare p) (Block q) h = absurd (true≢false (sym h))
part-only same e (Block p) (Prepare q) h = absurd (true≢false (sym h))
part-only same e (Block p) (Block q) h = ap (λ r. Block r) (e.only p q h)

pub part-exact : {P : Type 0} (same : P → P → Bool) → Exact same → Exact (same_part same)
part-exact {P} same e = record { itself = part-itself same e; only = part-only same e }

pub below-in : {P : Type 0} (rank : P → ℕ) (k : ℕ) (q : P) (qs : List P) → Below rank k qs → In q qs → rank q < k
below-in rank k q [] b i = absurd i
below-in rank k q (r ∷ rs) b (inl h) = subst (λ t. rank t < k) (sym h) b.0
below-in rank k q (r ∷ rs) b (inr h) = below-in rank k q rs b.1 h

pub flat-from : {P A : Type 0} (same : A → A → Bool) (f : P → List A) (x : A) (qs : List P) → stands_among same (flat_map f qs) x ≡ true → (q : P) × (In q qs × (stands_among same (f q) x ≡ true))
flat-from same f x [] h = absurd (true≢false (sym h))
flat-from same f x (q ∷ qs) h = elim (or_cases (stands_among same (f q) x) (stands_among same (flat_map f qs) x) (sym (has-append same (f q) (flat_map f qs) x) ∙ h)) [
  | inl k ↦ (q, (inl refl, k))
  | inr k ↦ let r : (q : _) × (In q qs × (stands_among same (f q) x ≡ true)) = flat-from same f x qs k in (r.0, (inr r.1.0, r.1.1))
]

pub flat-to : {P A : Type 0} (same : A → A → Bool) (f : P → List A) (x : A) (q : P) (qs : List P) → In q qs → stands_among same (f q) x ≡ true → stands_among same (flat_map f qs) x ≡ true
flat-to same f x q [] i h = absurd i
flat-to same f x q (r ∷ rs) (inl i) h = has-append same (f r) (flat_map f rs) x ∙ or_left (stands_among same (f r) x) (stands_among same (flat_map f rs) x) (ap (λ t. stands_among same (f t) x) (sym i) ∙ h)
flat-to same f x q (r ∷ rs) (inr i) h = has-append same (f r) (flat_map f rs) x ∙ or_right (stands_among same (f r) x) (stands_among same (flat_map f rs) x) (flat-to same f x q rs i h)

module _ {P : Type 0} (same : P → P → Bool) (e : Exact same) (priors : P → List P) (rank : P → ℕ) (lower : (p : P) → Below rank (rank p) (priors p)) where
  abbrev pub sp : Part P → Part P → Bool
  sp = same_part same

  abbrev pub hs : List (Part P) → Part P → Bool
  hs xs x = stands_among sp xs x

  abbrev pub ex : ℕ → P → List (Part P)
  ex n p = expansion priors n p

  pub ex-from : (n : ℕ) (p : P) (x : Part P) → hs (ex (suc n) p) x ≡ true → (Prepare p ≡ x) ⊎ (((q : P) × (In q (priors p) × (hs (ex n q) x ≡ true))) ⊎ (Block p ≡ x))
  ex-from n p x h = elim (or_cases (sp (Prepare p) x) _ h) [
    | inl k ↦ inl (part-only same e (Prepare p) x k)
    | inr k ↦ inr (elim (or_cases (hs (flat_map (ex n) (priors p)) x) (sp (Block p) x || false) (sym (has-append sp (flat_map (ex n) (priors p)) (Block p ∷ []) x) ∙ k)) [
      | inl l ↦ inl (flat-from sp (ex n) x (priors p) l)
      | inr l ↦ inr (elim (or_cases (sp (Block p) x) false l) [ inl m ↦ part-only same e (Block p) x m | inr m ↦ absurd (true≢false (sym m)) ])
    ])
  ]

  pub ex-ask : (n : ℕ) (p : P) → hs (ex (suc n) p) (Prepare p) ≡ true
  ex-ask n p = or_left (same p p) _ (e.itself p)

  pub ex-block : (n : ℕ) (p : P) → hs (ex (suc n) p) (Block p) ≡ true
  ex-block n p = has-append sp (flat_map (ex n) (priors p)) (Block p ∷ []) (Block p) ∙ or_right (hs (flat_map (ex n) (priors p)) (Block p)) (same p p || false) (or_left (same p p) false (e.itself p))

  pub ex-prior : (n : ℕ) (p q : P) (x : Part P) → In q (priors p) → hs (ex n q) x ≡ true → hs (ex (suc n) p) x ≡ true
  ex-prior n p q x i h = or_right (sp (Prepare p) x) _ (has-append sp (flat_map (ex n) (priors p)) (Block p ∷ []) x ∙ or_left (hs (flat_map (ex n) (priors p)) x) (sp (Block p) x || false) (flat-to sp (ex n) x q (priors p) i h))

  -- what stands in an expansion is of no greater rank
  pub ex-rank : (n : ℕ) (p : P) (x : Part P) → hs (ex n p) x ≡ true → rank (pair_of x) ≤ rank p
  ex-rank zero p x h = absurd (true≢false (sym h))
  ex-rank (suc n) p x h = elim (ex-from n p x h) [
    | inl k ↦ subst (λ t. rank (pair_of t) ≤ rank p) k (omega arith)
    | inr (inl k) ↦
        let a : rank (pair_of x) ≤ rank k.0 = ex-rank n k.0 x k.1.1 in
        let b : rank k.0 < rank p = below-in rank (rank p) k.0 (priors p) (lower p) k.1.0 in
        omega arith
    | inr (inr k) ↦ subst (λ t. rank (pair_of t) ≤ rank p) k (omega arith)
  ]

  -- more room changes nothing
  pub ex-more : (n m : ℕ) (p : P) (x : Part P) → rank p < n → hs (ex m p) x ≡ true → hs (ex n p) x ≡ true
  ex-more zero m p x l h = absurd (omega arith)
  ex-more (suc n) zero p x l h = absurd (true≢false (sym h))
  ex-more (suc n) (suc m) p x l h = elim (ex-from m p x h) [
    | inl k ↦ subst (λ t. hs (ex (suc n) p) t ≡ true) k (ex-ask n p)
    | inr (inl k) ↦
        let b : rank k.0 < rank p = below-in rank (rank p) k.0 (priors p) (lower p) k.1.0 in
        let c : rank k.0 < n = omega arith in
        ex-prior n p k.0 x k.1.0 (ex-more n m k.0 x c k.1.1)
    | inr (inr k) ↦ subst (λ t. hs (ex (suc n) p) t ≡ true) k (ex-block n p)
  ]

  -- an expansion holds that of each pair in it
  pub ex-within : (n m : ℕ) (p q : P) (x : Part P) → rank p < n → hs (ex n p) (Block q) ≡ true → hs (ex m q) x ≡ true → hs (ex n p) x ≡ true
  ex-within zero m p q x l h g = absurd (omega arith)
  ex-within (suc n) m p q x l h g = elim (ex-from n p (Block q) h) [
    | inl k ↦ absurd (true≢false (sym (ap (sp (Prepare p)) (sym k) ∙ e.itself p)))
    | inr (inl k) ↦
        let b : rank k.0 < rank p = below-in rank (rank p) k.0 (priors p) (lower p) k.1.0 in
        let c : rank k.0 < n = omega arith in
        ex-prior n p k.0 x k.1.0 (ex-within n m k.0 q x c k.1.1 g)
    | inr (inr k) ↦ let s : p ≡ q = ap pair_of k in ex-more (suc n) m p x l (ap (λ t. hs (ex m t) x) s ∙ g)
  ]

  -- with its questions each pair in it has its block
  pub ex-both : (n : ℕ) (p q : P) → hs (ex n p) (Prepare q) ≡ true → hs (ex n p) (Block q) ≡ true
  ex-both zero p q h = absurd (true≢false (sym h))
  ex-both (suc n) p q h = elim (ex-from n p (Prepare q) h) [
    | inl k ↦ subst (λ t. hs (ex (suc n) p) (Block t) ≡ true) (ap pair_of k) (ex-block n p)
    | inr (inl k) ↦ ex-prior n p k.0 (Block q) k.1.0 (ex-both n k.0 q k.1.1)
    | inr (inr k) ↦ absurd (true≢false (sym (ap (sp (Block p)) (sym k) ∙ e.itself p)))
  ]
