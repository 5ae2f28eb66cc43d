-- The way back from a number that a search found to where it began, as a circle of the solid numbers on it. They are
-- collected from the last to the first, so each is read by the next, and turned round at the end.
use Rattle.std.proofs.Common.{◌≡◌, ℕ, ◌+◌, ◌-◌, ◌<◌, ◌≤◌, Bool, false, List, [], ◌∷◌, ◌++◌, drop, reverse, length, get_or, slice_index, ◌⊎◌, inl, inr, refl, sym, ◌∙◌, ap, subst, arith}
use Rattle.std.proofs.lemmas.List.{length_push, length-reverse, length-drop, get_or-reverse, get_or-drop}
use Rattle.just_graph.specs.Steps.{IsWalk, IsOnce, IsCircle}
use Rattle.just_graph_order.specs.Through.{IsSolid, Passes, at_once, passing, ReadsThrough}
use Rattle.just_graph_order.specs.loops.Came.{CameThere}
use Rattle.just_graph.proofs.Pushes.{push_old, push_new, each_push, once_push, walk_push}

-- a walk against the steps that begins and ends with s is a circle, the other way round
module _ (R : ℕ → ℕ → Type 0) (c : List ℕ) (s : ℕ) (walk : IsWalk (λ a b. R b a) (c ++ s ∷ [])) (once : IsOnce c) (some : 0 < length c) (first : slice_index c 0 ≡ s) where
  len : length (c ++ s ∷ []) ≡ length c + 1
  len = length_push c s

  len-reverse : length (reverse (c ++ s ∷ [])) ≡ length c + 1
  len-reverse = length-reverse (c ++ s ∷ []) ∙ len

  at : (k j : ℕ) → j + k ≡ length c → slice_index (reverse (c ++ s ∷ [])) k ≡ slice_index (c ++ s ∷ []) j
  at k j e = get_or-reverse (c ++ s ∷ []) k 0 (omega (arith, len)) ∙ ap (slice_index (c ++ s ∷ [])) (omega (arith, len))

  at-drop : (i j : ℕ) → j + i + 1 ≡ length c → slice_index (drop 1 (reverse (c ++ s ∷ []))) i ≡ slice_index c j
  at-drop i j e = get_or-drop 1 (reverse (c ++ s ∷ [])) i 0 ∙ (at (1 + i) j (omega arith) ∙ push_old c s j (omega arith))

  pub reversed_circle : IsCircle R (reverse (c ++ s ∷ []))
  reversed_circle =
      let whole : length (reverse (c ++ s ∷ [])) ≡ length c + 1 = len-reverse in
      record {
        steps = omega arith;
        closed =
            at 0 (length c) (omega arith) ∙ (push_new c s (length c) refl ∙ (sym first ∙ (sym (push_old c s 0 some) ∙ sym (at (length (reverse (c ++ s ∷ [])) - 1) 0 (omega arith)))));
        walk = λ k h.
            let j : ℕ = length c - (k + 1) in
            let step : R (slice_index (c ++ s ∷ []) (j + 1)) (slice_index (c ++ s ∷ []) j) = walk j (omega (arith, len)) in
            subst (λ a. R a (slice_index (reverse (c ++ s ∷ [])) (k + 1))) (sym (at k (j + 1) (omega arith)))
            (subst (λ b. R (slice_index (c ++ s ∷ []) (j + 1)) b) (sym (at (k + 1) j (omega arith))) step);
        once = λ i k h l e.
            let short : length (drop 1 (reverse (c ++ s ∷ []))) ≡ length (reverse (c ++ s ∷ [])) - 1 = length-drop 1 (reverse (c ++ s ∷ [])) in
            once (length c - (k + 1)) (length c - (i + 1)) (omega arith) (omega arith)
            (sym (at-drop k (length c - (k + 1)) (omega arith)) ∙ (sym e ∙ at-drop i (length c - (i + 1)) (omega arith)));
      }

-- the number n is l, or it passes and leads to l through numbers that pass
abbrev pub Carries : (ℕ → ℕ → Type 0) → List Bool → ℕ → ℕ → Type 0
Carries R solid n l = (n ≡ l) ⊎ ((get_or solid n false ≡ false) × Passes R solid n l)

-- What is collected as far back as a place: solid numbers from there on, each read by the next. The number at the place
-- is the last of them, or passes and leads to it.
pub record Backing (solid : List Bool) (found came : List ℕ) (start at : ℕ) (c : List ℕ) : Type 0 where
  pub inside : at < length found
  pub some : 0 < length c
  pub first : slice_index c 0 ≡ start
  pub solids : (k : ℕ) → k < length c → IsSolid solid (slice_index c k)
  pub walk : IsWalk (λ a b. ReadsThrough (CameThere start found came) solid b a) c
  pub once : IsOnce c
  pub later : (k : ℕ) → k < length c → (j : ℕ) × (at ≤ j) × (j < length found) × (slice_index found j ≡ slice_index c k)
  pub carries : (k : ℕ) → k + 1 ≡ length c → Carries (CameThere start found came) solid (slice_index found at) (slice_index c k)

module _ (solid : List Bool) (found came : List ℕ) (start : ℕ) where
  module _ (apart : IsOnce found) (at : ℕ) (c : List ℕ) (b : Backing solid found came start at c) where
    on : (m : ℕ) → CameThere start found came m (slice_index found at) → (k : ℕ) → k + 1 ≡ length c → Passes (CameThere start found came) solid m (slice_index c k)
    on m r k e = elim (b.carries k e) [
      | inl same ↦ at_once (subst (CameThere start found came m) same r)
      | inr w ↦ passing r w.0 w.1
    ]

    reads_last : (m : ℕ) → IsSolid solid m → CameThere start found came m (slice_index found at) → (k : ℕ) → k + 1 ≡ length c → ReadsThrough (CameThere start found came) solid m (slice_index c k)
    reads_last m h r k e = record { reader = h; read = b.solids k (omega arith); way = on m r k e }

    module _ (p : ℕ) (is_p : p ≡ slice_index came at) (before : p < at) where
      came_by : CameThere start found came (slice_index found p) (slice_index found at)
      came_by = record { place = at; inside = b.inside; is = refl; from = inr (subst (λ x. x < at) is_p before, ap (slice_index found) (sym is_p)) }

      pub back_pushed : (more : List ℕ) → IsSolid solid (slice_index found p) → more ≡ c ++ slice_index found p ∷ [] → Backing solid found came start p more
      back_pushed more h is_more =
          let m : ℕ = slice_index found p in
          subst (Backing solid found came start p) (sym is_more) (record {
            inside = omega (arith, b.inside);
            some = omega (arith, length_push c m);
            first = push_old c m 0 b.some ∙ b.first;
            solids = each_push (IsSolid solid) c m b.solids h;
            walk = walk_push (λ x y. ReadsThrough (CameThere start found came) solid y x) c m b.walk (reads_last m h came_by);
            once = once_push c m b.once (λ k l e. let j = b.later k l in apart p j.0 (omega (arith, j.1)) j.2 (sym (j.3 ∙ e)));
            later = each_push (λ x. (j : ℕ) × (p ≤ j) × (j < length found) × (slice_index found j ≡ x)) c m
                (λ k l. let j = b.later k l in (j.0, omega (arith, j.1), j.2, j.3)) (p, omega arith, omega (arith, b.inside), refl);
            carries = λ k e. inl (sym (push_new c m k (omega (arith, length_push c m))));
          })

      pub back_passed : get_or solid (slice_index found p) false ≡ false → Backing solid found came start p c
      back_passed passes = record {
        inside = omega (arith, b.inside);
        some = b.some;
        first = b.first;
        solids = b.solids;
        walk = b.walk;
        once = b.once;
        later = λ k l. let j = b.later k l in (j.0, omega (arith, j.1), j.2, j.3);
        carries = λ k e. inr (passes, on (slice_index found p) came_by k e);
      }

    pub back_over : (more circle : List ℕ) → slice_index came at ≡ at → IsSolid solid start → more ≡ c ++ start ∷ [] → circle ≡ reverse more → IsCircle (ReadsThrough (CameThere start found came) solid) circle
    back_over more circle own h is_more is_circle =
        let r : CameThere start found came start (slice_index found at) = record { place = at; inside = b.inside; is = refl; from = inl (own, refl) } in
        subst (IsCircle (ReadsThrough (CameThere start found came) solid)) (sym (is_circle ∙ ap reverse is_more))
        (reversed_circle (ReadsThrough (CameThere start found came) solid) c start
        (walk_push (λ x y. ReadsThrough (CameThere start found came) solid y x) c start b.walk (reads_last start h r)) b.once b.some b.first)
