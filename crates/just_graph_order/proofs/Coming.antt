-- A search that notes, for each number that it finds, the place of the one that led to it: its steps, and what is known
-- once it has met its start, or is over and hasn't.
use Rattle.std.proofs.Common.{◌≡◌, ℕ, ◌+◌, ◌<◌, ◌≤◌, Bool, true, List, [], length, get_or, slice_index, ◌⊎◌, inl, inr, sym, ◌∙◌, ap, subst, arith}
use Rattle.std.proofs.lemmas.Bool.{cases_lt}
use Rattle.std.proofs.lemmas.List.{get_or_default}
use Rattle.std.specs.List.{Contains}
use Rattle.std.specs.declared.vec.Vec.{Vec}
use Rattle.std.specs.declared.alloc.Global.{Global}
use Rattle.just_graph.specs.Steps.{Leads, IsCircle, circle_by}
use Rattle.just_graph_order.specs.Through.{ReadsThrough, reads_by}
use Rattle.just_graph.specs.Graph.{targets, HasEdge}
use Rattle.just_graph.specs.Found.{is_seen, Added}
use Rattle.just_graph_order.specs.loops.Came.{CameThere}
use Rattle.just_graph.proofs.Adding.{row_done}
use Rattle.just_graph_order.proofs.Closing.{Closing, closing_over, leads_seen}

pub read_at : (found : List ℕ) (n node : ℕ) → n < length found → node ≡ get_or found n node → slice_index found n ≡ node
read_at found n node h e = get_or_default found n 0 node h ∙ sym e

-- an edge leads to each number found from the one at the place that is noted, or from the start where that is its own
pub record Coming (g : List (Vec ℕ Global)) (start : ℕ) (found came : List ℕ) : Type 0 where
  pub len : length came ≡ length found
  pub from : (k : ℕ) → k < length found → ((slice_index came k ≡ k) × HasEdge g start (slice_index found k)) ⊎ ((slice_index came k < k) × HasEdge g (slice_index found (slice_index came k)) (slice_index found k))

module _ (g : List (Vec ℕ Global)) (start : ℕ) where
  pub search_begun : (row : List ℕ) (seen0 : List Bool) (found0 : List ℕ) (seen : List Bool) (found : List ℕ) → length seen0 ≡ length g → found0 ≡ [] → Added row (length row) seen0 found0 seen found → Closing g row seen found 0
  search_begun row seen0 found0 seen found len none s = record {
    listing = s.listing;
    seen_len = s.seen_len ∙ len;
    within = omega arith;
    start_seen = row_done row seen0 found0 seen found s;
    passed = λ k b h e. absurd (omega arith);
  }

  pub coming_begun : (row : List ℕ) (seen0 : List Bool) (found0 : List ℕ) (seen : List Bool) (found came : List ℕ) → row ≡ targets g start → found0 ≡ [] → Added row (length row) seen0 found0 seen found → length came ≡ length found → ((k : ℕ) → k < length found → slice_index came k ≡ k) → Coming g start found came
  coming_begun row seen0 found0 seen found came is_row none s len own =
      let len0 : length found0 ≡ 0 = ap length none in
      record {
        len = len;
        from = λ k h. inl (own k h, subst (λ xs. Contains xs (slice_index found k)) is_row (s.rest k (omega arith) h));
      }

  module _ (found came : List ℕ) (c : Coming g start found came) where
    pub earlier : (k : ℕ) → k < length found → slice_index came k ≤ k
    earlier k h = elim (c.from k h) [ inl e ↦ (let same : slice_index came k ≡ k = e.0 in omega arith) | inr l ↦ (let less : slice_index came k < k = l.0 in omega arith) ]

    pub coming_step : (n node : ℕ) (row : List ℕ) (seen seen' : List Bool) (found' came' : List ℕ) → n < length found → slice_index found n ≡ node → row ≡ targets g node → Added row (length row) seen found seen' found' → length came' ≡ length found' → ((k : ℕ) → k < length found → slice_index came' k ≡ slice_index came k) → ((k : ℕ) → length found ≤ k → k < length found' → slice_index came' k ≡ n) → Coming g start found' came'
    coming_step n node row seen seen' found' came' h is_node is_row s len old new = record {
      len = len;
      from = λ k l. elim (cases_lt k (length found)) [
        | inl lk ↦
            let here : slice_index found' k ≡ slice_index found k = s.front k lk in
            elim (c.from k lk) [
              | inl e ↦ inl (old k lk ∙ e.0, subst (HasEdge g start) (sym here) e.1)
              | inr e ↦
                  let less : slice_index came k < k = e.0 in
                  let there : slice_index found' (slice_index came' k) ≡ slice_index found (slice_index came k) = ap (slice_index found') (old k lk) ∙ s.front (slice_index came k) (omega arith) in
                  inr (subst (λ x. x < k) (sym (old k lk)) less, subst (λ a. HasEdge g a (slice_index found' k)) (sym there) (subst (HasEdge g (slice_index found (slice_index came k))) (sym here) e.1))
            ]
        | inr lk ↦
            let at : slice_index came' k ≡ n = new k lk l in
            let there : slice_index found' (slice_index came' k) ≡ node = ap (slice_index found') at ∙ (s.front n h ∙ is_node) in
            let edge : HasEdge g node (slice_index found' k) = subst (λ xs. Contains xs (slice_index found' k)) is_row (s.rest k lk l) in
            inr (subst (λ x. x < k) (sym at) (omega arith), subst (λ a. HasEdge g a (slice_index found' k)) (sym there) edge)
      ];
    }

    came_edge : (a b : ℕ) → CameThere start found came a b → HasEdge g a b
    came_edge a b r = subst (HasEdge g a) r.is (elim r.from [
      | inl e ↦ elim (c.from r.place r.inside) [
        | inl f ↦ subst (λ x. HasEdge g x (slice_index found r.place)) (sym e.1) f.1
        | inr f ↦ absurd (let less : slice_index came r.place < r.place = f.0 in let same : slice_index came r.place ≡ r.place = e.0 in omega arith)
      ]
      | inr e ↦ elim (c.from r.place r.inside) [
        | inl f ↦ absurd (let less : slice_index came r.place < r.place = e.0 in let same : slice_index came r.place ≡ r.place = f.0 in omega arith)
        | inr f ↦ subst (λ x. HasEdge g x (slice_index found r.place)) e.1 f.1
      ]
    ])

    pub edge_circle : (solid : List Bool) (fs cs : List ℕ) (next : ℕ) (circle : List ℕ) → fs ≡ found → cs ≡ came → slice_index found next ≡ start → IsCircle (ReadsThrough (CameThere (slice_index fs next) fs cs) solid) circle → IsCircle (ReadsThrough (HasEdge g) solid) circle
    edge_circle solid fs cs next circle ef ec is k =
        let k₁ : IsCircle (ReadsThrough (CameThere (slice_index found next) found cs) solid) circle = subst (λ x. IsCircle (ReadsThrough (CameThere (slice_index x next) x cs) solid) circle) ef k in
        let k₂ : IsCircle (ReadsThrough (CameThere (slice_index found next) found came) solid) circle = subst (λ x. IsCircle (ReadsThrough (CameThere (slice_index found next) found x) solid) circle) ec k₁ in
        circle_by (reads_by came_edge) circle (subst (λ x. IsCircle (ReadsThrough (CameThere x found came) solid) circle) is k₂)

  -- if none of the numbers that were looked at is the start, nor the next one, then one more isn't
  pub not_start_more : (row : List ℕ) (seen : List Bool) (found : List ℕ) (seen' : List Bool) (found' : List ℕ) (n : ℕ) → Added row (length row) seen found seen' found' → n < length found → (slice_index found n ≡ start → ⊥) → ((k : ℕ) → k < n → slice_index found k ≡ start → ⊥) → (k : ℕ) → k < n + 1 → slice_index found' k ≡ start → ⊥
  not_start_more row seen found seen' found' n s h other old k l e =
      let was : slice_index found k ≡ start = sym (s.front k (omega arith)) ∙ e in
      elim (cases_lt k n) [
        | inl lk ↦ old k lk was
        | inr lk ↦ (let same : n ≡ k = omega arith in other (ap (slice_index found) same ∙ was))
      ]

  -- a search that is over and hasn't met its start shows that the start doesn't lead back to itself
  pub not_met : (row : List ℕ) (seen : List Bool) (found : List ℕ) (n : ℕ) → Closing g row seen found n → length found ≤ n → row ≡ targets g start → ((k : ℕ) → k < n → slice_index found k ≡ start → ⊥) → Leads (HasEdge g) start start → ⊥
  not_met row seen found n c over is_row new l =
      let s : is_seen seen start ≡ true = leads_seen g seen found (closing_over g row seen found n c over) (λ b e. c.start_seen b (subst (λ xs. Contains xs b) (sym is_row) e)) l in
      let i : Contains found start = c.listing.seen_found start s in
      new i.0 (omega (arith, i.1)) (get_or_default found i.0 0 start i.1 ∙ i.2)
