-- Names and entries by their places.
use Rattle.std.proofs.Common.{◌≡◌, ◌≢◌, ℕ, zero, suc, ◌+◌, ◌<◌, true, List, [], ◌∷◌, ◌++◌, length, Option, None, Some, refl, sym, ◌∙◌, ap, subst, arith, inl, inr}
use Rattle.std.specs.Cmp.Lexicographic.{slice_cmp}
use Rattle.std.specs.List.{Contains, slice_get}
use Rattle.std.specs.List.Sorted.{IsStrictlySortedBy}
use Rattle.std.specs.Map.{keys_of}
use Rattle.std.specs.Option.{is_some}
use Rattle.std.specs.Ordering.{nat_cmp, is_eq}
use Rattle.std.specs.declared.cmp.Ordering.TheVariants.{Less}
use Rattle.std.specs.Str.{bytes_eq}
use Rattle.std.proofs.lemmas.Bool.{cases_lt, false≢true}
use Rattle.std.proofs.lemmas.List.Elements.{All-from_recursion}
use Rattle.std.proofs.lemmas.Map.Entries.{lookup_head, lookup_tail}
use Rattle.std.proofs.lemmas.Map.Text.{is_eq-slice_cmp}
use Rattle.std.proofs.lemmas.Map.Views.{Contains-from_lookup}
use Rattle.std.proofs.lemmas.Option.{get_or_from_slice_get, slice_get-get_or, slice_get_within}
use Rattle.std.proofs.lemmas.Slice.Eq.{bytes_eq-Decides}
use Rattle.just_graph.proofs.Index.{map_get, some_same}
use Rattle.just_names.proofs.Indexing.{texts_apart}
use Rattle.just_names.specs.Index.{AreDifferent, IsIndex, IsLast, name_at}
use Rattle.just_names.specs.Texts.{Text}
use Rattle.just_table.specs.Entries.{IsSorted, find}

pub at_left : {A : Type 0} (xs ys : List A) (i : ℕ) (x : A) → slice_get xs i ≡ Some x → slice_get (xs ++ ys) i ≡ Some x
at_left [] ys i x e = cc
at_left (y ∷ xs) ys zero x e = e
at_left (y ∷ xs) ys (suc i) x e = at_left xs ys i x e

pub at_right : {A : Type 0} (xs ys : List A) (j k : ℕ) (x : A) → k ≡ length xs + j → slice_get ys j ≡ Some x → slice_get (xs ++ ys) k ≡ Some x
at_right [] ys j k x is e = let at : k ≡ j = omega arith in ap (slice_get ys) at ∙ e
at_right (y ∷ xs) ys j zero x is e = absurd (omega arith)
at_right (y ∷ xs) ys j (suc k) x is e = at_right xs ys j k x (omega arith) e

not_below_itself : (k : Text) → slice_cmp nat_cmp k k ≢ Less
not_below_itself k e = false≢true (sym (ap is_eq e) ∙ (is_eq-slice_cmp k k ∙ (bytes_eq-Decides k k).1 refl))

sorted_apart : (ks : List Text) → IsStrictlySortedBy (slice_cmp nat_cmp) ks → AreDifferent ks
unfolding IsStrictlySortedBy
sorted_apart [] s i j l h same = absurd (omega arith)
sorted_apart (k ∷ ks) s i zero l h same = absurd (omega arith)
sorted_apart (k ∷ ks) s zero (suc j) l h same =
    let less : slice_cmp nat_cmp k (name_at ks j) ≡ Less = All-from_recursion (λ y. slice_cmp nat_cmp k y ≡ Less) ks s.0 j [] (omega arith) in
    not_below_itself k (ap (slice_cmp nat_cmp k) same ∙ less)
sorted_apart (k ∷ ks) s (suc i) (suc j) l h same = sorted_apart ks s.1 i j (omega arith) (omega arith) same

-- the keys of a table are different
pub different : {V : Type 0} (es : List (Text × V)) → IsSorted es → AreDifferent (keys_of es)
different es s = sorted_apart (keys_of es) s

-- a name has one place
pub one_place : (names : List Text) → AreDifferent names → (i j : ℕ) → i < length names → j < length names → name_at names i ≡ name_at names j → i ≡ j
one_place names d i j in_i in_j e = elim (cases_lt i j) [
  | inl l ↦ absurd (d i j l in_j e)
  | inr l ↦ elim (cases_lt j i) [
    | inl m ↦ absurd (d j i m in_i (sym e))
    | inr m ↦ omega arith
  ]
]

last_some : (names : List Text) (n j : ℕ) (name : Text) (o : Option ℕ) → IsLast names n name o → o ≡ Some j → (j < n) × (name_at names j ≡ name)
last_some names n j name None s e = cc
last_some names n j name (Some k) s e = let at : k ≡ j = some_same e in (subst (λ m. m < n) at s.0, subst (λ m. name_at names m ≡ name) at s.1)

-- what an index finds
pub found_there : (names : List Text) (found : Text → Option ℕ) → IsIndex names found → (name : Text) (j : ℕ) → found name ≡ Some j → (j < length names) × (name_at names j ≡ name)
found_there names found index name j e = last_some names (length names) j name (found name) (index name) e

last_at : (names : List Text) → AreDifferent names → (i : ℕ) → i < length names → (o : Option ℕ) → IsLast names (length names) (name_at names i) o → o ≡ Some i
last_at names d i h None s = absurd (s i h refl)
last_at names d i h (Some j) s = ap Some (one_place names d j i s.0 h s.1)

pub found_at : (names : List Text) (found : Text → Option ℕ) → AreDifferent names → IsIndex names found → (i : ℕ) → i < length names → found (name_at names i) ≡ Some i
found_at names found d index i h = last_at names d i h (found (name_at names i)) (index (name_at names i))

module _ {V : Type 0} where
  -- the key of an entry
  pub key_at : (es : List (Text × V)) (i : ℕ) (e : Text × V) → slice_get es i ≡ Some e → (i < length (keys_of es)) × (name_at (keys_of es) i ≡ e.0)
  key_at es i e at =
      let there : slice_get (keys_of es) i ≡ Some e.0 = map_get (λ (x : Text × V). x.0) es i e at in
      (slice_get_within (keys_of es) i e.0 there, get_or_from_slice_get (keys_of es) i e.0 [] there)

  -- what is found stands at a place
  pub entry_found : (es : List (Text × V)) (name : Text) (v : V) → find name es ≡ Some v → (i : ℕ) × (slice_get es i ≡ Some (name, v))
  entry_found es name v e =
      let c : Contains es (name, v) = Contains-from_lookup (λ x y. (bytes_eq-Decides x y).0) name v es e in
      (c.0, slice_get-get_or es c.0 (name, v) c.1 ∙ ap Some c.2)

  -- what stands at a place is found
  pub entry_at : (es : List (Text × V)) → AreDifferent (keys_of es) → (i : ℕ) (name : Text) (v : V) → slice_get es i ≡ Some (name, v) → find name es ≡ Some v
  entry_at [] d i name v e = cc
  entry_at (x ∷ es) d zero name v e =
      let same : x ≡ (name, v) = some_same e in
      lookup_head (bytes_eq name) x es ((bytes_eq-Decides name x.0).1 (sym (ap (λ (y : Text × V). y.0) same))) ∙ ap (λ (y : Text × V). Some y.1) same
  entry_at (x ∷ es) d (suc i) name v e =
      let key = key_at es i (name, v) e in
      lookup_tail (bytes_eq name) x es (texts_apart name x.0 (λ same. d zero (suc i) (omega arith) (omega (arith, key.0)) (sym same ∙ sym key.1)))
      ∙ entry_at es (λ a b l h. d (suc a) (suc b) (omega arith) (omega arith)) i name v e

-- a value that is there
pub the_value : {V : Type 0} (o : Option V) → is_some o ≡ true → (v : V) × (o ≡ Some v)
the_value None h = absurd (false≢true h)
the_value (Some v) h = (v, refl)
