-- A set of nodes that no edge leads out of, and how it grows. Where it has all that the edges of a node lead to and lacks
-- the node itself, the node doesn't lead back to itself.
use Rattle.std.proofs.Common.{◌≡◌, ◌≢◌, ℕ, Option, Some, None, IfNone, ◌+◌, ◌<◌, ◌≤◌, Bool, true, false, List, length, get_or, slice_index, inl, inr, refl, sym, ◌∙◌, ap, subst, arith}
use Rattle.std.proofs.lemmas.Bool.{cases_lt, false≢true}
use Rattle.std.proofs.lemmas.List.{get_or_default}
use Rattle.std.proofs.lemmas.List.Elements.{All-from_get_or}
use Rattle.std.specs.List.{All, Contains}
use Rattle.std.specs.declared.vec.Vec.{Vec}
use Rattle.std.specs.declared.alloc.Global.{Global}
use Rattle.just_graph.specs.Steps.{Leads, by_step, by_steps}
use Rattle.just_graph.specs.Graph.{targets, HasEdge}
use Rattle.just_graph.specs.Found.{is_seen, Listing, Added}
use Rattle.just_graph_order.specs.loops.Finished.{Closed}
use Rattle.just_graph_order.specs.Through.{IsSolid}
use Rattle.just_graph.proofs.Pushes.{at_contained}
use Rattle.just_graph_order.proofs.Inside.{marked_inside}
use Rattle.just_graph.proofs.Adding.{row_done}

-- a set that is growing: the edges of the first n nodes found lead to what is seen
pub record Closing (g : List (Vec ℕ Global)) (start : List ℕ) (seen : List Bool) (found : List ℕ) (n : ℕ) : Type 0 where
  pub listing : Listing seen found
  pub seen_len : length seen ≡ length g
  pub within : n ≤ length found
  pub start_seen : (a : ℕ) → Contains start a → is_seen seen a ≡ true
  pub passed : (k b : ℕ) → k < n → HasEdge g (slice_index found k) b → is_seen seen b ≡ true

module _ (g : List (Vec ℕ Global)) (start : List ℕ) (seen : List Bool) (found : List ℕ) where
  module _ (n : ℕ) (c : Closing g start seen found n) where
    pub all_inside : (xs : List ℕ) (m : ℕ) → xs ≡ found → m ≡ length g → All (λ a. a < m) xs
    all_inside xs m same len = All-from_get_or (λ a. a < m) xs 0 (λ k h.
        let h' : k < length found = subst (λ ys. k < length ys) same h in
        let in_seen : slice_index found k < length seen = marked_inside seen (slice_index found k) (c.listing.found_seen k h') in
        let in_g : slice_index found k < m = omega (arith, c.seen_len) in
        subst (λ ys. slice_index ys k < m) (sym same) in_g)

    pub node_found : (node : ℕ) → n < length found → node ≡ get_or found n node → node < length g
    node_found node h e =
        let at : slice_index found n ≡ node = get_or_default found n 0 node h ∙ sym e in
        let in_seen : slice_index found n < length seen = marked_inside seen (slice_index found n) (c.listing.found_seen n h) in
        omega (arith, c.seen_len)

    pub closing_step : (node : ℕ) (row : List ℕ) (seen' : List Bool) (found' : List ℕ) → n < length found → node ≡ get_or found n node → row ≡ targets g node → Added row (length row) seen found seen' found' → Closing g start seen' found' (n + 1)
    closing_step node row seen' found' h read is_row s =
        let is_node : slice_index found n ≡ node = get_or_default found n 0 node h ∙ sym read in
        record {
          listing = s.listing;
          seen_len = s.seen_len ∙ c.seen_len;
          within = omega (arith, s.longer);
          start_seen = λ a i. s.kept a (c.start_seen a i);
          passed = λ k b l e.
              let e' : HasEdge g (slice_index found k) b = subst (λ a. HasEdge g a b) (s.front k (omega arith)) e in
              elim (cases_lt k n) [
                | inl lk ↦ s.kept b (c.passed k b lk e')
                | inr lk ↦
                    let at : slice_index found k ≡ node = ap (slice_index found) (omega arith) ∙ is_node in
                    row_done row seen found seen' found' s b (subst (λ xs. Contains xs b) (sym is_row) (subst (λ a. HasEdge g a b) at e'))
              ];
        }

    pub closing_over : length found ≤ n → Closed g seen found
    closing_over over = record {
      listing = c.listing;
      seen_len = c.seen_len;
      closed = λ a b h e.
          let i : Contains found a = c.listing.seen_found a h in
          let at : slice_index found i.0 ≡ a = get_or_default found i.0 0 a i.1 ∙ i.2 in
          c.passed i.0 b (omega (arith, i.1)) (subst (λ x. HasEdge g x b) (sym at) e);
    }

pub same_closed : (g : List (Vec ℕ Global)) (s₁ s₂ : List Bool) (f₁ f₂ : List ℕ) → s₂ ≡ s₁ → f₂ ≡ f₁ → Closed g s₁ f₁ → Closed g s₂ f₂
same_closed g s₁ s₂ f₁ f₂ e d c = subst (λ s. Closed g s f₂) (sym e) (subst (Closed g s₁) (sym d) c)

-- a number whose edges lead into a closed set leads to nothing else
pub leads_seen : (g : List (Vec ℕ Global)) (seen : List Bool) (found : List ℕ) → Closed g seen found → {a c : ℕ} → ((b : ℕ) → HasEdge g a b → is_seen seen b ≡ true) → Leads (HasEdge g) a c → is_seen seen c ≡ true
leads_seen g seen found s all (by_step e) = all _ e
leads_seen g seen found s all (by_steps {b = b} e l) = leads_seen g seen found s (λ x f. s.closed b x (all b e) f) l

-- Of the first n nodes, no solid one leads back to itself.
abbrev pub NoneBack : List (Vec ℕ Global) → List Bool → List ℕ → ℕ → Type 0
NoneBack g solid nodes n = (k : ℕ) → k < n → IsSolid solid (slice_index nodes k) → Leads (HasEdge g) (slice_index nodes k) (slice_index nodes k) → ⊥

module _ (g : List (Vec ℕ Global)) (solid : List Bool) (nodes : List ℕ) (n : ℕ) (none : NoneBack g solid nodes n) where
  none_more : ((k : ℕ) → k ≡ n → IsSolid solid (slice_index nodes k) → Leads (HasEdge g) (slice_index nodes k) (slice_index nodes k) → ⊥) → NoneBack g solid nodes (n + 1)
  none_more last k h = elim (cases_lt k n) [ inl l ↦ none k l | inr l ↦ last k (omega arith) ]

  pub none_passing : get_or solid (slice_index nodes n) false ≡ false → NoneBack g solid nodes (n + 1)
  none_passing p = none_more (λ k e s l. false≢true (sym p ∙ (ap (λ x. get_or solid (slice_index nodes x) false) (sym e) ∙ s)))

  pub none_found : (Leads (HasEdge g) (slice_index nodes n) (slice_index nodes n) → ⊥) → NoneBack g solid nodes (n + 1)
  none_found never = none_more (λ k e s l. (let at : slice_index nodes k ≡ slice_index nodes n = ap (slice_index nodes) e in never (subst (λ a. Leads (HasEdge g) a a) at l)))

  pub none_seen : (seen : List Bool) (found row : List ℕ) → Closed g seen found → row ≡ targets g (slice_index nodes n) → ((a : ℕ) → Contains row a → is_seen seen a ≡ true) → is_seen seen (slice_index nodes n) ≡ false → NoneBack g solid nodes (n + 1)
  none_seen seen found row c is_row all new = none_more (λ k e s l.
      let at : slice_index nodes k ≡ slice_index nodes n = ap (slice_index nodes) e in
      let way : Leads (HasEdge g) (slice_index nodes n) (slice_index nodes n) = subst (λ a. Leads (HasEdge g) a a) at l in
      false≢true (sym new ∙ leads_seen g seen found c (λ b i. all b (subst (λ xs. Contains xs b) (sym is_row) i)) way))

  pub none_back : length nodes ≤ n → (a : ℕ) → Contains nodes a → IsSolid solid a → Leads (HasEdge g) a a → ⊥
  none_back over a c = at_contained (λ x. IsSolid solid x → Leads (HasEdge g) x x → ⊥) nodes (λ k h. none k (omega arith)) a c

pub if_none : {A P : Type 0} (r : Option A) → ((x : A) → r ≢ Some x) → IfNone r P → P
if_none None ne h = h
if_none (Some x) ne h = absurd (ne x refl)
