-- The test of pairs is exact.
use Rattle.std.proofs.Common.{◌≡◌, ℕ, Bool, true, false, ◌&&◌, List, [], ◌∷◌, nat_eq, refl, sym, ap, subst, ◌∙◌, ◌||◌, ◌==◌, cond, inl, inr, arith, eqb-true, eq-eqb, Ordering, Less, Equal, Greater}
use Rattle.std.specs.Cmp.Lexicographic.{pointwise, slice_cmp}
use Rattle.std.proofs.lemmas.Bool.{and_parts, and_from, true≢false, false_from_ne_true, cases_Bool}
use Rattle.just_tasks.specs.declared.pair.Pair.{Pair}
use Rattle.just_tasks.specs.Pairs.{same_pair}
use Rattle.std.specs.Ordering.{is_eq, nat_cmp, ordering_then}
use Rattle.std.specs.BTreeMap.{is_at}
use Rattle.std.specs.List.{list_any}
use Rattle.std.proofs.lemmas.Grind.{common_steps}
use Rattle.just_execution.specs.Firsts.{stands_among}
use Rattle.just_tasks.specs.contracts.pair.PairOrd.TheImpl.{cmp-value}
use Rattle.just_execution.proofs.Keeps.{Exact}

list-itself : {A : Type 0} (same : A → A → Bool) → Exact same → (xs : List A) → pointwise same xs xs ≡ true
list-itself same e [] = refl
list-itself same e (x ∷ xs) = and_from _ _ (e.itself x) (list-itself same e xs)

list-only : {A : Type 0} (same : A → A → Bool) → Exact same → (xs ys : List A) → pointwise same xs ys ≡ true → xs ≡ ys
list-only same e [] [] h = refl
list-only same e [] (y ∷ ys) h = absurd (true≢false (sym h))
list-only same e (x ∷ xs) [] h = absurd (true≢false (sym h))
list-only same e (x ∷ xs) (y ∷ ys) h =
    let b = and_parts (same x y) (pointwise same xs ys) h in
    let head : x ≡ y = e.only x y b.0 in
    let tail : xs ≡ ys = list-only same e xs ys b.1 in
    λ i. head i ∷ tail i

pub list-exact : {A : Type 0} (same : A → A → Bool) → Exact same → Exact (pointwise same)
list-exact same e = record { itself = list-itself same e; only = list-only same e }

number-exact : Exact nat_eq
number-exact = record { itself = λ n. eq-eqb n n refl; only = λ m n h. eqb-true m n h }

groups-exact : Exact (pointwise (pointwise (pointwise nat_eq)))
groups-exact = list-exact (pointwise (pointwise nat_eq)) (list-exact (pointwise nat_eq) (list-exact nat_eq number-exact))

same-itself : (p : Pair) → same_pair p p ≡ true
same-itself p = and_from _ _ (eq-eqb p.recipe p.recipe refl) (groups-exact.itself p.groups)

same-only : (p q : Pair) → same_pair p q ≡ true → p ≡ q
same-only p q h =
    let b = and_parts _ _ h in
    let r : p.recipe ≡ q.recipe = eqb-true p.recipe q.recipe b.0 in
    let s : p.groups ≡ q.groups = groups-exact.only p.groups q.groups b.1 in
    λ i. record { recipe = r i; groups = s i }

pub pair-exact : Exact same_pair
pair-exact = record { itself = same-itself; only = same-only }

same-either : (p q : Pair) → same_pair p q ≡ true → same_pair q p ≡ true
same-either p q h = subst (λ r. same_pair r p ≡ true) (same-only p q h) (same-itself p)

same-sym : (p q : Pair) → same_pair p q ≡ same_pair q p
same-sym p q = elim (cases_Bool (same_pair p q)) [
  | inl h ↦ h ∙ sym (same-either p q h)
  | inr h ↦ h ∙ sym (false_from_ne_true (same_pair q p) (λ k. true≢false (sym (same-either q p k) ∙ h)))
]

-- the order of pairs finds the same equal
then-equal : (a b : Ordering) → is_eq (ordering_then a b) ≡ (is_eq a && is_eq b)
then-equal Less b = refl
then-equal Equal b = refl
then-equal Greater b = refl

number-equal : (m n : ℕ) → is_eq (nat_cmp m n) ≡ nat_eq m n
number-equal m n = grind (arith, common_steps)

list-equal : {A : Type 0} (cmp : A → A → Ordering) (same : A → A → Bool) → ((x y : A) → is_eq (cmp x y) ≡ same x y) → (xs ys : List A) → is_eq (slice_cmp cmp xs ys) ≡ pointwise same xs ys
list-equal cmp same h [] [] = refl
list-equal cmp same h [] (y ∷ ys) = refl
list-equal cmp same h (x ∷ xs) [] = refl
list-equal cmp same h (x ∷ xs) (y ∷ ys) = then-equal (cmp x y) (slice_cmp cmp xs ys) ∙ ap (λ b. b && is_eq (slice_cmp cmp xs ys)) (h x y) ∙ ap (λ b. same x y && b) (list-equal cmp same h xs ys)

groups-equal : (g h : List (List (List ℕ))) → is_eq (slice_cmp (slice_cmp (slice_cmp nat_cmp)) g h) ≡ pointwise (pointwise (pointwise nat_eq)) g h
groups-equal = list-equal (slice_cmp (slice_cmp nat_cmp)) (pointwise (pointwise nat_eq)) (list-equal (slice_cmp nat_cmp) (pointwise nat_eq) (list-equal nat_cmp nat_eq number-equal))

pub pair-equal : (p q : Pair) → is_eq (cmp-value.it p q) ≡ same_pair p q
pair-equal p q = then-equal (nat_cmp p.recipe q.recipe) (slice_cmp (slice_cmp (slice_cmp nat_cmp)) p.groups q.groups)
    ∙ ap (λ b. b && is_eq (slice_cmp (slice_cmp (slice_cmp nat_cmp)) p.groups q.groups)) (number-equal p.recipe q.recipe)
    ∙ ap (λ b. (p.recipe == q.recipe) && b) (groups-equal p.groups q.groups)

-- so a set of pairs is asked by that test
pub held : (ps : List Pair) (p : Pair) → list_any (is_at (cmp-value.it p)) ps ≡ stands_among same_pair ps p
held [] p = refl
held (q ∷ ps) p = ap (λ b. b || list_any (is_at (cmp-value.it p)) ps) (pair-equal p q ∙ same-sym p q) ∙ ap (λ b. same_pair q p || b) (held ps p)

with-one : (a b : Bool) → cond a true b ≡ (b || a)
with-one true true = refl
with-one true false = refl
with-one false true = refl
with-one false false = refl

pub inserted : (old new : List Pair) (pair : Pair) → ((p : Pair) → list_any (is_at (cmp-value.it p)) new ≡ cond (is_eq (cmp-value.it pair p)) true (list_any (is_at (cmp-value.it p)) old)) → (p : Pair) → stands_among same_pair new p ≡ (stands_among same_pair old p || same_pair pair p)
inserted old new pair h p = sym (held new p) ∙ h p ∙ with-one (is_eq (cmp-value.it pair p)) (list_any (is_at (cmp-value.it p)) old)
    ∙ ap (λ b. b || is_eq (cmp-value.it pair p)) (held old p) ∙ ap (λ b. stands_among same_pair old p || b) (pair-equal pair p)
