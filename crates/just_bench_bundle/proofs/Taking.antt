-- A path that a walk finds, and one that it does not.
use Rattle.std.proofs.Common.{◌≡◌, ℕ, zero, suc, ◌+◌, ◌<◌, true, false, cond, ◌||◌, List, [], ◌∷◌, ◌++◌, length, map, get_or, ◌⊎◌, inl, inr, sym, ap, subst, ◌∙◌, arith}
use Rattle.std.proofs.Math.Bool.{or-true}
use Rattle.std.specs.Borrow.{Bor}
use Rattle.std.specs.HashSet.{contains_by, hash_set_len}
use Rattle.std.specs.List.{Contains, list_any}
use Rattle.std.specs.Str.{bytes_eq}
use Rattle.std.proofs.lemmas.Bool.{cases_Bool}
use Rattle.std.proofs.lemmas.List.{length_push, map-append}
use Rattle.std.proofs.lemmas.List.Elements.{Contains-push, Contains-push_cases}
use Rattle.std.proofs.lemmas.Slice.Eq.{bytes_eq-Decides}
use Rattle.just_bench_bundle.specs.loops.Walk.{IsLeft, Walks, found_in}
use Rattle.just_bench_bundle.specs.declared.walk.Walk.{Walk}
use Rattle.just_names.specs.Texts.{texts}

-- after a path was taken, the others are left as they were
abbrev pub Takes : List ℕ → Walk → Walk → Type 0
Takes path old new = (t : List ℕ) → contains_by (λ k. bytes_eq t k.now) new.left ≡ cond (bytes_eq path t) false (contains_by (λ k. bytes_eq t k.now) old.left)

same_text : (a b : List ℕ) → bytes_eq a b ≡ true → a ≡ b
same_text a b is = (bytes_eq-Decides a b).0 is

module _ (path : List ℕ) (old new : Walk) where
  module _ (taken : Bor (List ℕ)) (is_path : bytes_eq path taken.now ≡ true) (pushed : new.found.items ≡ old.found.items ++ taken ∷ []) (takes : Takes path old new) where
    found_more : found_in new ≡ found_in old ++ taken.now ∷ []
    found_more = ap texts pushed ∙ map-append (λ w. w.now) old.found.items (taken ∷ [])

    left_cases : (t : List ℕ) → IsLeft old t → Contains (found_in new) t ⊎ IsLeft new t
    left_cases t left = elim (cases_Bool (bytes_eq path t)) [
      | inl same ↦ inl (subst (Contains (found_in new)) (sym (same_text path taken.now is_path) ∙ same_text path t same) (subst (λ ps. Contains ps taken.now) (sym found_more) (Contains-push (found_in old) taken.now)))
      | inr other ↦ inr (takes t ∙ ap (λ b. cond b false (contains_by (λ k. bytes_eq t k.now) old.left)) other ∙ left)
    ]

    left_before : (t : List ℕ) → IsLeft new t → IsLeft old t
    left_before t left = elim (cases_Bool (bytes_eq path t)) [
      | inl same ↦ let no : false ≡ true = ap (λ b. cond b false (contains_by (λ k. bytes_eq t k.now) old.left)) (sym same) ∙ sym (takes t) ∙ left in cc
      | inr other ↦ ap (λ b. cond b false (contains_by (λ k. bytes_eq t k.now) old.left)) (sym other) ∙ sym (takes t) ∙ left
    ]

    pub walks_one : hash_set_len new.left + 1 ≡ hash_set_len old.left → Walks (λ found. path ≡ found) old new
    walks_one fewer = record {
      grows = (taken.now ∷ [], found_more, λ t c. elim (Contains-push_cases [] taken.now t c) [ inl none ↦ absurd (omega (arith, none.1)) | inr is ↦ same_text path taken.now is_path ∙ is ]);
      taken = left_cases;
      fewer = left_before;
      count = omega (arith, fewer, ap length pushed, length_push old.found.items taken);
    }

-- a path among some is found among them
pub member_is : (keys : List (Bor (List ℕ))) (path : List ℕ) → Contains (texts keys) path → list_any (λ k. bytes_eq path k.now) keys ≡ true
member_is keys path c = go keys (c.0) (c.1) (c.2)
  where
    go : (keys : List (Bor (List ℕ))) (k : ℕ) → k < length (texts keys) → get_or (texts keys) k path ≡ path → list_any (λ k. bytes_eq path k.now) keys ≡ true
    go [] k h is = absurd (omega (arith, h))
    go (x ∷ xs) zero h is = ap (λ b. b || list_any (λ k. bytes_eq path k.now) xs) ((bytes_eq-Decides path x.now).1 (sym is))
    go (x ∷ xs) (suc k) h is = ap (λ b. bytes_eq path x.now || b) (go xs k (omega (arith, h)) is) ∙ or-true (bytes_eq path x.now)

-- one more path that is another
pub none_more : (before : List (Bor (Bor (List ℕ)))) (other : Bor (Bor (List ℕ))) (path : List ℕ) → (Contains (texts (map (λ k. k.now) before)) path → ⊥) → bytes_eq other.now.now path ≡ false
    → Contains (texts (map (λ k. k.now) (before ++ other ∷ []))) path → ⊥
none_more before other path none differs c =
    let all : texts (map (λ k. k.now) (before ++ other ∷ [])) ≡ texts (map (λ k. k.now) before) ++ other.now.now ∷ [] =
    ap texts (map-append (λ k. k.now) before (other ∷ [])) ∙ map-append (λ k. k.now) (map (λ k. k.now) before) (other.now ∷ []) in
    elim (Contains-push_cases (texts (map (λ k. k.now) before)) other.now.now path (subst (λ ps. Contains ps path) all c)) [
      | inl old ↦ none old
      | inr is ↦ let no : true ≡ false = sym ((bytes_eq-Decides other.now.now path).1 is) ∙ differs in cc
    ]
