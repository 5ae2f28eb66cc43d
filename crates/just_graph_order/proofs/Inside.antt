-- What is marked has a place among the marks, and what a search of a graph finds lies in the graph.
use Rattle.std.proofs.Common.{◌≡◌, ℕ, ◌<◌, Bool, true, false, List, length, get_or, slice_index, inl, inr, sym, ◌∙◌, subst, ◌↔◌}
use Rattle.std.proofs.lemmas.Bool.{cases_lt, false≢true}
use Rattle.std.proofs.lemmas.List.{get_or_past}
use Rattle.std.proofs.lemmas.List.Elements.{All-contains, All-from_get_or, Contains-get_or}
use Rattle.std.specs.List.{All, Contains}
use Rattle.std.specs.declared.vec.Vec.{Vec}
use Rattle.std.specs.declared.alloc.Global.{Global}
use Rattle.just_graph.specs.Steps.{Reached, from_start, from_member}
use Rattle.just_graph.specs.Graph.{HasEdge, IsGraph}

pub marked_inside : (marks : List Bool) (a : ℕ) → get_or marks a false ≡ true → a < length marks
marked_inside marks a h = elim (cases_lt a (length marks)) [ inl l ↦ l | inr l ↦ absurd (false≢true (sym (get_or_past marks a false l) ∙ h)) ]

module _ (g : List (Vec ℕ Global)) (graph : IsGraph g) where
  reached_inside : (start : List ℕ) (stops : List Bool) → All (λ a. a < length g) start → {a : ℕ} → Reached (HasEdge g) start stops a → a < length g
  reached_inside start stops starts (from_start {a = a} c) = All-contains (λ a. a < length g) start a starts c
  reached_inside start stops starts (from_member {a = a} {b = b} r on e) = graph a b e

  pub found_inside : (start : List ℕ) (stops : List Bool) (found xs : List ℕ) (n : ℕ) → All (λ a. a < length g) start → ((a : ℕ) → Contains found a ↔ Reached (HasEdge g) start stops a) → xs ≡ found → n ≡ length g → All (λ a. a < n) xs
  found_inside start stops found xs n starts is_found same len = All-from_get_or (λ a. a < n) xs 0 (λ k h.
      let c : Contains found (slice_index xs k) = subst (λ ys. Contains ys (slice_index xs k)) same (Contains-get_or xs k 0 h) in
      subst (λ m. slice_index xs k < m) (sym len) (reached_inside start stops starts ((is_found (slice_index xs k)).0 c)))
