-- The order in which a search is done with all numbers, without those that pass, is an evaluation order where no solid
-- number leads back to itself: such a number stands after all that it leads to.
use Rattle.std.proofs.Common.{◌≡◌, ℕ, ◌+◌, ◌<◌, ◌≤◌, Bool, false, List, [], take, length, get_or, slice_index, inl, inr, refl, sym, ◌∙◌, ap, subst, arith, ◌↔◌}
use Rattle.std.proofs.Math.Nat.{lt_of_lt_of_le}
use Rattle.std.proofs.lemmas.Bool.{cases_lt}
use Rattle.std.proofs.lemmas.List.{length-take-le, get_or-take, get_or_default}
use Rattle.std.proofs.lemmas.List.Elements.{Contains-get_or}
use Rattle.std.specs.List.{Contains, filter}
use Rattle.just_graph.specs.Steps.{Leads, by_step, by_steps, Reached, in_take}
use Rattle.just_graph_order.specs.Through.{IsSolid, IsOrderThrough}
use Rattle.just_graph_order.specs.loops.Finished.{ListsOrComesBack, IsFinished}
use Rattle.just_graph_order.proofs.Filtered.{contains_filter, once_filter, filter_place}
use Rattle.just_graph_order.proofs.Passing.{passes_leads, reads_leads}

listed_before : (xs : List ℕ) (j k b : ℕ) → j < k → k ≤ length xs → slice_index xs j ≡ b → Contains (take k xs) b
listed_before xs j k b l h e =
    (j, subst (λ n. j < n) (sym (length-take-le k xs h)) l, get_or-take k xs j b l ∙ get_or_default xs j b 0 (lt_of_lt_of_le l h) ∙ e)

module _ (R : ℕ → ℕ → Type 0) (fin : List ℕ) (after : ListsOrComesBack R fin) (k : ℕ) (inside : k < length fin) (never : Leads R (slice_index fin k) (slice_index fin k) → ⊥) where
  -- what number k leads to and a step leads to is listed up to there, or number k would lead back to itself
  one_step : {a b : ℕ} → ((c : ℕ) → Leads R a c → Leads R (slice_index fin k) c) → Contains (take (k + 1) fin) a → R a b → Contains (take (k + 1) fin) b
  one_step {a} {b} way c r =
      let at : (j : ℕ) × (j < k + 1) × (slice_index fin j ≡ a) = in_take fin (k + 1) a (omega arith) c in
      elim (after at.0 k b (omega (arith, at.1)) inside (subst (λ x. R x b) (sym at.2) r)) [
        | inl i ↦ i
        | inr back ↦ absurd (never (way (slice_index fin k) (by_steps r back)))
      ]

  up_to : {a b : ℕ} → ((c : ℕ) → Leads R a c → Leads R (slice_index fin k) c) → Contains (take (k + 1) fin) a → Leads R a b → Contains (take (k + 1) fin) b
  up_to way c (by_step r) = one_step way c r
  up_to way c (by_steps r l) = up_to (λ x m. way x (by_steps r m)) (one_step way c r) l

  -- a number that doesn't lead back to itself is listed after all that it leads to
  pub leads_first : {b : ℕ} → Leads R (slice_index fin k) b → Contains (take k fin) b
  leads_first {b} l =
      let at : (j : ℕ) × (j < k + 1) × (slice_index fin j ≡ b) = in_take fin (k + 1) b (omega arith) (up_to (λ c m. m) (listed_before fin k (k + 1) _ (omega arith) (omega arith) refl) l) in
      elim (cases_lt at.0 k) [
        | inl h ↦ listed_before fin at.0 k b h (omega arith) at.2
        | inr h ↦
            let same : at.0 ≡ k = omega (arith, at.1) in
            absurd (never (subst (Leads R (slice_index fin k)) (sym at.2 ∙ ap (slice_index fin) same) l))
      ]

module _ (R : ℕ → ℕ → Type 0) (solid : List Bool) (roots fin : List ℕ) (f : IsFinished R roots fin) (never : (a : ℕ) → Contains fin a → IsSolid solid a → Leads R a a → ⊥) where
  pub is_order_through : (slice order : List ℕ) → slice ≡ fin → order ≡ filter (λ a. get_or solid a false) slice → IsOrderThrough R solid roots order
  is_order_through slice order same kept =
      let whole : order ≡ filter (λ a. get_or solid a false) fin = kept ∙ ap (filter (λ a. get_or solid a false)) same in
      let kept_are : (a : ℕ) → Contains (filter (λ a. get_or solid a false) fin) a ↔ (Contains fin a × IsSolid solid a) = contains_filter (λ a. get_or solid a false) fin in
      subst (IsOrderThrough R solid roots) (sym whole) (record {
        lists = λ a. (
          λ (c : Contains (filter (λ a. get_or solid a false) fin) a). (((kept_are a).0 c).1, f.reached a ((kept_are a).0 c).0),
          λ (c : IsSolid solid a × Reached R roots [] a). (kept_are a).1 (f.listed a c.1, c.0),
        );
        once = once_filter (λ a. get_or solid a false) fin f.once;
        reads_first = λ k b h r.
            let at = filter_place (λ a. get_or solid a false) fin k h in
            let inside : at.0 < length fin = at.1 in
            let way : Leads R (slice_index fin at.0) b = subst (λ x. Leads R x b) (sym at.2) (passes_leads R solid r.way) in
            let listed : Contains fin (slice_index fin at.0) = Contains-get_or fin at.0 0 inside in
            let reader : IsSolid solid (slice_index fin at.0) = subst (IsSolid solid) (sym at.2) r.reader in
            at.3 b (leads_first R fin f.after at.0 inside (never (slice_index fin at.0) listed reader) way) r.read;
        no_circle = λ a c l. never a ((kept_are a).0 c).0 ((kept_are a).0 c).1 (reads_leads R solid l);
      })
