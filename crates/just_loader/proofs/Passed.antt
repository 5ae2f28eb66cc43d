-- Texts that have a prefix stand together in the byte order.
use Rattle.std.proofs.Common.{◌≡◌, ◌≢◌, ℕ, ◌<◌, ◌==◌, Bool, true, false, cond, List, [], ◌∷◌, ◌++◌, refl, sym, ap, ◌∙◌, arith, None, Some, true≢false, ⊎_elim, ◌⊎◌}
use Rattle.std.specs.Ordering.{nat_cmp, is_le, ordering_then}
use Rattle.std.specs.declared.cmp.Ordering.{Ordering}
use Rattle.std.specs.declared.cmp.Ordering.TheVariants.{Less}
use Rattle.std.specs.Cmp.Lexicographic.{slice_cmp}
use Rattle.std.specs.List.{AllByRecursion, filter}
use Rattle.std.specs.List.Sorted.{IsStrictlySortedBy}
use Rattle.std.specs.Map.{keys_of}
use Rattle.std.proofs.lemmas.Bool.{cond-true, cond-false, eq-eqb, ne_eqb}
use Rattle.std.proofs.lemmas.Bool.Decides.{nat_tests, eqb_tells}
use Rattle.just_table.specs.Entries.{from_key, IsSorted}
use Rattle.just_loader.specs.ModuleFile.{after}

-- what a comparison says of the first bytes
le_parts : (x y : ℕ) (o : Ordering) → is_le (ordering_then (nat_cmp x y) o) ≡ true → (x < y) ⊎ ((x ≡ y) × (is_le o ≡ true))
le_parts x y o h = grind (arith, nat_tests)

lt_parts : (x y : ℕ) (o : Ordering) → ordering_then (nat_cmp x y) o ≡ Less → (x < y) ⊎ ((x ≡ y) × (o ≡ Less))
lt_parts x y o h = grind (arith, nat_tests)

eq_then : (x : ℕ) (o : Ordering) → ordering_then (nat_cmp x x) o ≡ o
eq_then x o = grind (arith, nat_tests)

no_prefix : (p b : ℕ) (ps bs : List ℕ) → p ≢ b → after (p ∷ ps) (b ∷ bs) ≡ None
no_prefix p b ps bs n = cond-false (p == b) (after ps bs) None (ne_eqb p b n)

same_prefix : (p b : ℕ) (ps bs : List ℕ) → p ≡ b → after (p ∷ ps) (b ∷ bs) ≡ after ps bs
same_prefix p b ps bs e = cond-true (p == b) (after ps bs) None (eq-eqb p b e)

-- from a text at or after the prefix that lacks it, no later one has it
pub passed : (p a b : List ℕ) → is_le (slice_cmp nat_cmp p a) ≡ true → after p a ≡ None → slice_cmp nat_cmp a b ≡ Less → after p b ≡ None
passed [] a b h n l = (cc)
passed (p ∷ ps) a [] h n l = refl
passed (p ∷ ps) [] (y ∷ ys) h n l = (cc)
passed (p ∷ ps) (x ∷ xs) (y ∷ ys) h n l =
    ⊎_elim (λ (before : p < x). ⊎_elim (λ (lt : x < y). no_prefix p y ps ys (λ e. omega (arith, e))) (λ same. no_prefix p y ps ys (λ e. omega (arith, e, same.0))) (lt_parts x y (slice_cmp nat_cmp xs ys) l))
    (λ same. ⊎_elim (λ (lt : x < y). no_prefix p y ps ys (λ e. omega (arith, e, same.0)))
    (λ more. same_prefix p y ps ys (same.0 ∙ more.0) ∙ passed ps xs ys same.1 (sym (same_prefix p x ps xs same.0) ∙ n) more.1)
    (lt_parts x y (slice_cmp nat_cmp xs ys) l))
    (le_parts p x (slice_cmp nat_cmp ps xs) h)

-- a text with the prefix stands at it or after it
pub not_before : (p k rest : List ℕ) → after p k ≡ Some rest → is_le (slice_cmp nat_cmp p k) ≡ true
not_before [] [] rest h = refl
not_before [] (b ∷ bs) rest h = refl
not_before (p ∷ ps) [] rest h = (cc)
not_before (p ∷ ps) (b ∷ bs) rest h =
    ⊎_elim (λ is.
    let same : p ≡ b = is.1 in
    ap is_le (ap (λ q. ordering_then (nat_cmp p q) (slice_cmp nat_cmp ps bs)) (sym same) ∙ eq_then p (slice_cmp nat_cmp ps bs)) ∙ not_before ps bs rest (sym (same_prefix p b ps bs same) ∙ h))
    (λ not. let none : after (p ∷ ps) (b ∷ bs) ≡ None = no_prefix p b ps bs not.1 in (cc))
    (eqb_tells p b)

-- such a text is the prefix and what stands after it
pub after_is : (p k rest : List ℕ) → after p k ≡ Some rest → k ≡ p ++ rest
after_is [] k rest h = (cc)
after_is (p ∷ ps) [] rest h = (cc)
after_is (p ∷ ps) (b ∷ bs) rest h =
    ⊎_elim (λ is.
    let same : p ≡ b = is.1 in
    let more : bs ≡ ps ++ rest = after_is ps bs rest (sym (same_prefix p b ps bs same) ∙ h) in
    (cc))
    (λ not. let none : after (p ∷ ps) (b ∷ bs) ≡ None = no_prefix p b ps bs not.1 in (cc))
    (eqb_tells p b)

module _ {V : Type 0} where
  -- a selection of entries that all stand at a key or after it misses none before it
  pub selected_from : (select : List ℕ → Bool) (k : List ℕ) → ((q : List ℕ) → select q ≡ true → is_le (slice_cmp nat_cmp k q) ≡ true)
      → (es : List (List ℕ × V)) → filter select (keys_of (from_key k es)) ≡ filter select (keys_of es)
  selected_from select k h [] = refl
  selected_from select k h (e ∷ es) = go (is_le (slice_cmp nat_cmp k e.0)) refl (select e.0) refl (selected_from select k h es)
    where
      go : (b : Bool) → is_le (slice_cmp nat_cmp k e.0) ≡ b → (s : Bool) → select e.0 ≡ s → filter select (keys_of (from_key k es)) ≡ filter select (keys_of es)
          → filter select (keys_of (cond b (e ∷ from_key k es) (from_key k es))) ≡ cond s (e.0 ∷ filter select (keys_of es)) (filter select (keys_of es))
      go true p s q ih = ap (λ rest. cond (select e.0) (e.0 ∷ rest) rest) ih ∙ ap (λ t. cond t (e.0 ∷ filter select (keys_of es)) (filter select (keys_of es))) q
      go false p true q ih = absurd (true≢false (sym (h e.0 q) ∙ p))
      go false p false q ih = ih

  below_from : (x k : List ℕ) (es : List (List ℕ × V)) → AllByRecursion (λ y. slice_cmp nat_cmp x y ≡ Less) (keys_of es) → AllByRecursion (λ y. slice_cmp nat_cmp x y ≡ Less) (keys_of (from_key k es))
  below_from x k [] h = tt
  below_from x k (e ∷ es) h = go (is_le (slice_cmp nat_cmp k e.0)) (below_from x k es h.1)
    where
      go : (b : Bool) → AllByRecursion (λ y. slice_cmp nat_cmp x y ≡ Less) (keys_of (from_key k es)) → AllByRecursion (λ y. slice_cmp nat_cmp x y ≡ Less) (keys_of (cond b (e ∷ from_key k es) (from_key k es)))
      go true ih = (h.0, ih)
      go false ih = ih

  pub sorted_from : (k : List ℕ) (es : List (List ℕ × V)) → IsSorted es → IsSorted (from_key k es)
  unfolding IsStrictlySortedBy
  sorted_from k [] h = tt
  sorted_from k (e ∷ es) h = go (is_le (slice_cmp nat_cmp k e.0)) (below_from e.0 k es h.0) (sorted_from k es h.1)
    where
      go : (b : Bool) → AllByRecursion (λ y. slice_cmp nat_cmp e.0 y ≡ Less) (keys_of (from_key k es)) → IsSorted (from_key k es) → IsSorted (cond b (e ∷ from_key k es) (from_key k es))
      go true low ih = (low, ih)
      go false low ih = ih

  -- each key is at k or after it
  abbrev pub AreFrom : List ℕ → List (List ℕ × V) → Type 0
  AreFrom k es = AllByRecursion (λ q. is_le (slice_cmp nat_cmp k q) ≡ true) (keys_of es)

  pub are_from : (k : List ℕ) (es : List (List ℕ × V)) → AreFrom k (from_key k es)
  are_from k [] = tt
  are_from k (e ∷ es) = go (is_le (slice_cmp nat_cmp k e.0)) refl (are_from k es)
    where
      go : (b : Bool) → is_le (slice_cmp nat_cmp k e.0) ≡ b → AreFrom k (from_key k es) → AreFrom k (cond b (e ∷ from_key k es) (from_key k es))
      go true q ih = (q, ih)
      go false q ih = ih

-- where the first of sorted entries lacks the prefix, a selection of texts that have it has none of them
pub none_selected : (select : List ℕ → Bool) (p a : List ℕ) → ((q : List ℕ) → after p q ≡ None → select q ≡ false) → is_le (slice_cmp nat_cmp p a) ≡ true → after p a ≡ None
    → (ks : List (List ℕ)) → AllByRecursion (λ y. slice_cmp nat_cmp a y ≡ Less) ks → filter select (a ∷ ks) ≡ []
none_selected select p a h at n ks below = cond-false (select a) (a ∷ filter select ks) (filter select ks) (h a n) ∙ rest ks below
  where
    rest : (qs : List (List ℕ)) → AllByRecursion (λ y. slice_cmp nat_cmp a y ≡ Less) qs → filter select qs ≡ []
    rest [] b = refl
    rest (q ∷ qs) b = cond-false (select q) (q ∷ filter select qs) (filter select qs) (h q (passed p a q at n b.0)) ∙ rest qs b.1

pub sorted_head : {V : Type 0} (e : List ℕ × V) (es : List (List ℕ × V)) → IsSorted (e ∷ es) → AllByRecursion (λ y. slice_cmp nat_cmp e.0 y ≡ Less) (keys_of es)
unfolding IsStrictlySortedBy
sorted_head e es h = h.0

pub sorted_tail : {V : Type 0} (e : List ℕ × V) (es : List (List ℕ × V)) → IsSorted (e ∷ es) → IsSorted es
unfolding IsStrictlySortedBy
sorted_tail e es h = h.1
