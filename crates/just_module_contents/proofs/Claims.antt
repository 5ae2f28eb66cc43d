-- Which claims are kept, as they are found one after another.
use Rattle.std.proofs.Common.{◌≡◌, ◌≢◌, ◌<◌, ◌≤◌, ℕ, ◌+◌, ◌-◌, Bool, true, false, not, ◌&&◌, ◌||◌, List, length, get_or, drop, Option, None, Some, refl, sym, ap, subst, ◌∙◌, arith, inl, inr}
use Rattle.std.specs.Prelude.{nat_eq}
use Rattle.std.specs.List.{list_any}
use Rattle.std.proofs.lemmas.Bool.Decides.{eqb_tells}
use Rattle.std.proofs.lemmas.Bool.{cases_lt, eqb-true, eq-eqb, lt-ltb, ltb-false, ltb-true}
use Rattle.std.proofs.lemmas.List.{get_or-drop, get_or_default, length-drop}
use Rattle.std.proofs.lemmas.List.Folds.{list_any_at, list_any_none}
use Rattle.std.proofs.lemmas.Slice.Eq.{bytes_eq-Decides}
use Rattle.just_names.specs.Texts.{Text}
use Rattle.just_names.proofs.SameTexts.{same_or_not}
use Rattle.just_module_contents.specs.Kept.{lies_above, lies_beside}
use Rattle.just_module_contents.specs.loops.Kept.{IsBest, IsBestIndex, IsBestOf, IsBestSoFar, claim_at, is_outdone, no_claim, outdoes, stays}
use Rattle.just_module_contents.specs.declared.precedence.Claim.{Claim}

pub both_false : (a b : Bool) → (a ≡ true → b ≡ true → ⊥) → (a && b) ≡ false
both_false true true h = absurd (h refl refl)
both_false true false h = refl
both_false false b h = refl

both_true : (a b : Bool) → a ≡ true → b ≡ true → (a && b) ≡ true
both_true a b p q = rw (p, q) refl

second_true : (a b : Bool) → b ≡ true → (a || b) ≡ true
second_true true b p = refl
second_true false b p = p

module _ (claims : List Claim) where
  -- a claim of another name
  best_past : (n : ℕ) (name : Text) (o : Option ℕ) → IsBestOf claims n name o → (claim_at claims n).name ≢ name → IsBestOf claims (n + 1) name o
  best_past n name None so other = λ k h same. elim (cases_lt k n) [
    | inl l ↦ so k l same
    | inr l ↦ (let at : k ≡ n = omega (arith, h, l) in other (ap (λ i. (claim_at claims i).name) (sym at) ∙ same))
  ]
  best_past n name (Some best) so other = record {
    there = omega (arith, so.there);
    named = so.named;
    least = λ k h same. elim (cases_lt k n) [
      | inl l ↦ so.least k l same
      | inr l ↦ (let at : k ≡ n = omega (arith, h, l) in absurd (other (ap (λ i. (claim_at claims i).name) (sym at) ∙ same)))
    ];
    last = λ k b h same. elim (cases_lt k n) [
      | inl l ↦ so.last k b l same
      | inr l ↦ (let at : k ≡ n = omega (arith, h, l) in absurd (other (ap (λ i. (claim_at claims i).name) (sym at) ∙ same)))
    ];
  }

  -- one that is outdone
  best_outdoes : (n : ℕ) (name : Text) (o : Option ℕ) → IsBestOf claims n name o → outdoes claims n o ≡ true → IsBestOf claims (n + 1) name o
  best_outdoes n name None so t = cc
  best_outdoes n name (Some best) so t =
      let less : (claim_at claims best).depth < (claim_at claims n).depth = ltb-true _ _ t in
      record {
        there = omega (arith, so.there);
        named = so.named;
        least = λ k h same. elim (cases_lt k n) [
          | inl l ↦ so.least k l same
          | inr l ↦ (let at : k ≡ n = omega (arith, h, l) in let depth = ap (λ i. (claim_at claims i).depth) at in omega (arith, less, depth))
        ];
        last = λ k b h same. elim (cases_lt k n) [
          | inl l ↦ so.last k b l same
          | inr l ↦ (let at : k ≡ n = omega (arith, h, l) in let depth = ap (λ i. (claim_at claims i).depth) at in omega (arith, less, depth))
        ];
      }

  -- one that is not
  best_here : (n : ℕ) (name : Text) (o : Option ℕ) → IsBestOf claims n name o → outdoes claims n o ≡ false → (claim_at claims n).name ≡ name → IsBest claims (n + 1) name n
  best_here n name None so t is = record {
    there = omega arith;
    named = is;
    least = λ k h same. elim (cases_lt k n) [
      | inl l ↦ absurd (so k l same)
      | inr l ↦ (let at : k ≡ n = omega (arith, h, l) in let depth = ap (λ i. (claim_at claims i).depth) at in omega (arith, depth))
    ];
    last = λ k b h same. absurd (omega (arith, b, h));
  }
  best_here n name (Some best) so t is =
      let more : (claim_at claims n).depth ≤ (claim_at claims best).depth = ltb-false _ _ t in
      record {
        there = omega arith;
        named = is;
        least = λ k h same. elim (cases_lt k n) [
          | inl l ↦ (let least = so.least k l same in omega (arith, more, least))
          | inr l ↦ (let at : k ≡ n = omega (arith, h, l) in let depth = ap (λ i. (claim_at claims i).depth) at in omega (arith, depth))
        ];
        last = λ k b h same. absurd (omega (arith, b, h));
      }

  -- the index as it stood
  pub best_stays : (n : ℕ) (found : Text → Option ℕ) → IsBestSoFar claims n found → is_outdone claims found n ≡ true → IsBestSoFar claims (n + 1) found
  best_stays n found so t name = elim (same_or_not (claim_at claims n).name name) [
    | inl same ↦ subst (λ x. IsBestOf claims (n + 1) x (found x)) same (best_outdoes n (claim_at claims n).name (found (claim_at claims n).name) (so (claim_at claims n).name) t)
    | inr other ↦ best_past n name (found name) (so name) other
  ]

  -- with one more claim
  pub best_more : (n : ℕ) (found new : Text → Option ℕ) (v : Text) → IsBestSoFar claims n found → is_outdone claims found n ≡ false → v ≡ (claim_at claims n).name → new v ≡ Some n → ((q : Text) → v ≢ q → new q ≡ found q) → IsBestSoFar claims (n + 1) new
  best_more n found new v so t is here others name = elim (same_or_not v name) [
    | inl same ↦ subst (IsBestOf claims (n + 1) name) (sym here ∙ ap new same) (best_here n name (found (claim_at claims n).name) (subst (λ x. IsBestOf claims n x (found (claim_at claims n).name)) (sym is ∙ same) (so (claim_at claims n).name)) t (sym is ∙ same))
    | inr other ↦ subst (IsBestOf claims (n + 1) name) (sym (others name other)) (best_past n name (found name) (so name) (λ e. other (is ∙ e)))
  ]

  module _ (i : ℕ) (inside : i < length claims) where
    abbrev c : Claim
    c = claim_at claims i

    abbrev later : List Claim
    later = drop (i + 1) claims

    read : (k : ℕ) (x : Claim) → k < length claims → get_or claims k x ≡ claim_at claims k
    read k x h = get_or_default claims k x no_claim h

    none_above : IsBest claims (length claims) c.name i → list_any (lies_above c) claims ≡ false
    none_above best = list_any_none (lies_above c) claims (λ k x h. both_false _ _ (λ same less.
        let at : (get_or claims k x).depth ≡ (claim_at claims k).depth = ap (λ (y : Claim). y.depth) (read k x h) in
        let named : (claim_at claims k).name ≡ c.name = ap (λ (y : Claim). y.name) (sym (read k x h)) ∙ (bytes_eq-Decides _ _).0 same in
        let least = best.least k h named in
        let is : (get_or claims k x).depth < c.depth = ltb-true _ _ less in
        omega (arith, at, least, is)))

    none_beside : IsBest claims (length claims) c.name i → list_any (lies_beside c) later ≡ false
    none_beside best = list_any_none (lies_beside c) later (λ k x h. both_false _ _ (λ same equal.
        let within : i + 1 + k < length claims = omega (arith, h, length-drop (i + 1) claims) in
        let at : get_or later k x ≡ claim_at claims (i + 1 + k) = get_or-drop (i + 1) claims k x ∙ read (i + 1 + k) x within in
        let named : (claim_at claims (i + 1 + k)).name ≡ c.name = ap (λ (y : Claim). y.name) (sym at) ∙ (bytes_eq-Decides _ _).0 same in
        let last = best.last (i + 1 + k) (omega arith) within named in
        let depth : (get_or later k x).depth ≡ (claim_at claims (i + 1 + k)).depth = ap (λ (y : Claim). y.depth) at in
        let is : (get_or later k x).depth ≡ c.depth = eqb-true _ _ equal in
        omega (arith, last, depth, is)))

    -- the one that is found is kept
    pub found_stays : IsBest claims (length claims) c.name i → stays claims i ≡ true
    found_stays best = rw (none_above best, none_beside best) refl

    above_at : (k : ℕ) → k < length claims → (claim_at claims k).name ≡ c.name → (claim_at claims k).depth < c.depth → stays claims i ≡ false
    above_at k h named less =
        let t : list_any (lies_above c) claims ≡ true = list_any_at (lies_above c) claims k no_claim h (both_true _ _ ((bytes_eq-Decides _ _).1 named) (lt-ltb _ _ less)) in
        ap (λ b. not (b || list_any (lies_beside c) later)) t

    beside_at : (k : ℕ) → i < k → k < length claims → (claim_at claims k).name ≡ c.name → (claim_at claims k).depth ≡ c.depth → stays claims i ≡ false
    beside_at k b h named equal =
        let back : i + 1 + (k - (i + 1)) ≡ k = omega (arith, b) in
        let at : get_or later (k - (i + 1)) no_claim ≡ claim_at claims k = get_or-drop (i + 1) claims (k - (i + 1)) no_claim ∙ ap (claim_at claims) back in
        let within : k - (i + 1) < length later = omega (arith, h, b, length-drop (i + 1) claims) in
        let t : list_any (lies_beside c) later ≡ true = list_any_at (lies_beside c) later (k - (i + 1)) no_claim within
        (both_true _ _ ((bytes_eq-Decides _ _).1 (ap (λ (y : Claim). y.name) at ∙ named)) (eq-eqb _ _ (ap (λ (y : Claim). y.depth) at ∙ equal))) in
        ap not (second_true (list_any (lies_above c) claims) _ t)

    -- where another one is found, it is not
    pub other_found : (best : ℕ) → IsBest claims (length claims) c.name best → best ≢ i → stays claims i ≡ false
    other_found best so other = elim (cases_lt best i) [
      | inl before ↦ above_at best so.there so.named (so.last i before inside refl)
      | inr after ↦
          let least = so.least i inside refl in
          elim (cases_lt (claim_at claims best).depth c.depth) [
            | inl less ↦ above_at best so.there so.named less
            | inr more ↦ beside_at best (omega (arith, after, other)) so.there so.named (omega (arith, more, least))
          ]
    ]

    -- one is found
    pub none_found : IsBestOf claims (length claims) c.name None → stays claims i ≡ false
    none_found so = absurd (so i inside refl)

-- what is found tells whether the claim at a place is kept
pub tells_kept : (claims : List Claim) (i best : ℕ) (x : Claim) (found : Text → Option ℕ) → i < length claims → x ≡ get_or claims i x → IsBestIndex claims found → found x.name ≡ Some best → nat_eq best i ≡ stays claims i
tells_kept claims i best x found inside is index e =
    let at : claim_at claims i ≡ x = sym (get_or_default claims i x no_claim inside) ∙ sym is in
    let so : IsBest claims (length claims) (claim_at claims i).name best = subst (λ (y : Claim). IsBest claims (length claims) y.name best) (sym at) (subst (IsBestOf claims (length claims) x.name) e (index x.name)) in
    elim (eqb_tells best i) [
      | inl same ↦ same.0 ∙ sym (found_stays claims i inside (subst (IsBest claims (length claims) (claim_at claims i).name) same.1 so))
      | inr other ↦ other.0 ∙ sym (other_found claims i inside best so other.1)
    ]

pub tells_lost : (claims : List Claim) (i : ℕ) (x : Claim) (found : Text → Option ℕ) → i < length claims → x ≡ get_or claims i x → IsBestIndex claims found → found x.name ≡ None → false ≡ stays claims i
tells_lost claims i x found inside is index e =
    let at : claim_at claims i ≡ x = sym (get_or_default claims i x no_claim inside) ∙ sym is in
    sym (none_found claims i inside (subst (λ (y : Claim). IsBestOf claims (length claims) y.name None) (sym at) (subst (IsBestOf claims (length claims) x.name) e (index x.name))))
