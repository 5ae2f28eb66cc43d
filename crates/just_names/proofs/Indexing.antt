-- One more name in an index.
use Rattle.std.proofs.Common.{◌≡◌, ◌≢◌, ℕ, ◌+◌, ◌<◌, false, List, [], length, get_or, Option, Some, None, sym, ◌∙◌, ap, subst, arith, inl, inr}
use Rattle.std.proofs.lemmas.Bool.{cases_lt, false_from_ne_true}
use Rattle.std.proofs.lemmas.List.{get_or_default}
use Rattle.std.proofs.lemmas.Slice.Eq.{bytes_eq-Decides}
use Rattle.std.specs.Str.{bytes_eq}
use Rattle.just_names.proofs.SameTexts.{same_or_not}
use Rattle.just_names.specs.Index.{name_at, Repeats, IsLast}

pub texts_apart : (a b : List ℕ) → a ≢ b → bytes_eq a b ≡ false
texts_apart a b ne = false_from_ne_true (bytes_eq a b) (λ t. ne ((bytes_eq-Decides a b).0 t))

last_more : (names : List (List ℕ)) (n : ℕ) (name : List ℕ) (o : Option ℕ) → IsLast names n name o → name_at names n ≢ name → IsLast names (n + 1) name o
last_more names n name None s ne = λ k h. elim (cases_lt k n) [
  | inl l ↦ s k l
  | inr l ↦ λ e. ne (ap (name_at names) (omega arith) ∙ e)
]
last_more names n name (Some j) s ne = (
  omega (arith, s.0),
  s.1,
  λ k b h. elim (cases_lt k n) [
    | inl l ↦ s.2 k b l
    | inr l ↦ λ e. ne (ap (name_at names) (omega arith) ∙ e)
  ],
)

pub index_more : (names : List (List ℕ)) (n : ℕ) (v : List ℕ) (old new : List ℕ → Option ℕ) → ((name : List ℕ) → IsLast names n name (old name)) → v ≡ name_at names n → new v ≡ Some n → ((q : List ℕ) → v ≢ q → new q ≡ old q) → (name : List ℕ) → IsLast names (n + 1) name (new name)
index_more names n v old new s is here others name = elim (same_or_not v name) [
  | inl same ↦ subst (IsLast names (n + 1) name) (sym here ∙ ap new same) (omega arith, sym is ∙ same, λ k b h. absurd (omega arith))
  | inr ne ↦ subst (IsLast names (n + 1) name) (sym (others name ne)) (last_more names n name (old name) (s name) (λ e. ne (is ∙ e)))
]

-- a name that was not there is different from all before it
pub different_more : (names : List (List ℕ)) (n : ℕ) (v : List ℕ) (found : Option ℕ) → ((i j : ℕ) → i < j → j < n → name_at names i ≢ name_at names j) → IsLast names n v found → found ≡ None → v ≡ name_at names n → (i j : ℕ) → i < j → j < n + 1 → name_at names i ≢ name_at names j
different_more names n v None before s e is i j h l = elim (cases_lt j n) [
  | inl m ↦ before i j h m
  | inr m ↦ let at : j ≡ n = omega arith in λ same. s i (omega arith) (same ∙ (ap (name_at names) at ∙ sym is))
]
different_more names n v (Some k) before s e is i j h l = cc

-- a name that was there stood last at its place
pub repeats : (names : List (List ℕ)) (n before : ℕ) (v : List ℕ) (found : Option ℕ) → IsLast names n v found → found ≡ Some before → v ≡ name_at names n → n < length names → Repeats names before n
repeats names n before v None s e is inside = cc
repeats names n before v (Some k) s e is inside =
    let at : k ≡ before = cc in
    record {
      apart = omega (arith, s.0);
      within = inside;
      same = ap (name_at names) (sym at) ∙ (s.1 ∙ is);
      next = λ m l h same. s.2 m (omega arith) h (same ∙ sym is);
    }

-- what a read gives
pub read_name : (names : List (List ℕ)) (i : ℕ) (x : List ℕ) → i < length names → x ≡ get_or names i x → x ≡ name_at names i
read_name names i x h is = is ∙ get_or_default names i x [] h
