-- The steps of a depth-first search that goes on at circles, over lists. When a node goes into the order, all that is seen
-- is in the order or on the path, and what is on the path leads to that node.
use Rattle.std.proofs.Common.{◌≡◌, ◌≢◌, ℕ, zero, suc, ◌+◌, ◌-◌, ◌<◌, ◌≤◌, Bool, true, false, List, [], ◌∷◌, ◌++◌, take, length, set, slice_index, get_or-set_same, get_or-set_other, ◌⊎◌, inl, inr, refl, sym, ◌∙◌, ap, subst, arith}
use Rattle.std.proofs.lemmas.List.{length-set, length_push, take-append-le, take_all}
use Rattle.std.proofs.lemmas.List.Elements.{Contains-push, Contains-push_cases, Contains-append_left}
use Rattle.std.proofs.lemmas.Bool.{cases_eq, cases_lt, false≢true}
use Rattle.std.proofs.lemmas.Grind.{common_steps}
use Rattle.std.specs.List.{Contains}
use Rattle.std.specs.declared.vec.Vec.{Vec}
use Rattle.std.specs.declared.alloc.Global.{Global}
use Rattle.just_graph.specs.Steps.{Leads, by_step, by_steps, IsWalk, Reached, from_start, from_member}
use Rattle.just_graph.specs.Graph.{targets, HasEdge}
use Rattle.just_graph.specs.Found.{is_seen}
use Rattle.just_graph_order.specs.loops.Finished.{Finishing, IsFinished}
use Rattle.just_graph.proofs.Pushes.{at_contained, push_old, push_new, push_place, below_push, each_push, each_front, each_last, once_push, once_front, once_last, walk_push, walk_front}

-- one more node is marked as seen
pub seen_same : (s : List Bool) (v : ℕ) → v < length s → is_seen (set s v true) v ≡ true
seen_same s v h = get_or-set_same s v true false h

pub seen_stays : (s : List Bool) (v : ℕ) → v < length s → (a : ℕ) → is_seen s a ≡ true → is_seen (set s v true) a ≡ true
seen_stays s v in_s a h = elim (cases_eq a v) [
  | inl e ↦ subst (λ x. is_seen (set s v true) x ≡ true) (sym e) (seen_same s v in_s)
  | inr ne ↦ get_or-set_other s v a true false ne ∙ h
]

pub seen_was : (s : List Bool) (v a : ℕ) → is_seen (set s v true) a ≡ true → (a ≡ v) ⊎ (is_seen s a ≡ true)
seen_was s v a h = elim (cases_eq a v) [
  | inl e ↦ inl e
  | inr ne ↦ inr (sym (get_or-set_other s v a true false ne) ∙ h)
]

-- each number of a walk leads to the later ones
walk_leads : (R : ℕ → ℕ → Type 0) (xs : List ℕ) → IsWalk R xs → (d k : ℕ) → k + (d + 1) < length xs → Leads R (slice_index xs k) (slice_index xs (k + (d + 1)))
walk_leads R xs walk zero k h = by_step (walk k h)
walk_leads R xs walk (suc d) k h =
    let same : (k + 1) + (d + 1) ≡ k + (suc d + 1) = omega arith in
    by_steps (walk k (omega arith)) (subst (λ n. Leads R (slice_index xs (k + 1)) (slice_index xs n)) same (walk_leads R xs walk d (k + 1) (omega arith)))

pub leads_last : (R : ℕ → ℕ → Type 0) (xs : List ℕ) (v : ℕ) → IsWalk R (xs ++ v ∷ []) → (b : ℕ) → Contains xs b → Leads R b v
leads_last R xs v walk b c = at_contained (λ a. Leads R a v) xs (λ k h.
    let d : ℕ = length xs - k - 1 in
    let last : k + (d + 1) ≡ length xs = omega arith in
    let way : Leads R (slice_index (xs ++ v ∷ []) k) (slice_index (xs ++ v ∷ []) (k + (d + 1))) = walk_leads R (xs ++ v ∷ []) walk d k (omega (arith, length_push xs v)) in
    subst (λ a. Leads R a v) (push_old xs v k h) (subst (Leads R (slice_index (xs ++ v ∷ []) k)) (push_new xs v (k + (d + 1)) last) way)) b c

module _ (g : List (Vec ℕ Global)) (roots : List ℕ) (s : List Bool) (p n o : List ℕ) where
  -- a node that isn't seen is put on the path
  pub opened : (v : ℕ) → Finishing g roots s p n o → v < length g → is_seen s v ≡ false → Reached (HasEdge g) roots [] v → ((k : ℕ) → k + 1 ≡ length p → HasEdge g (slice_index p k) v) → Finishing g roots (set s v true) (p ++ v ∷ []) (n ++ 0 ∷ []) o
  opened v f inside is_new reached edge =
      let in_s : v < length s = omega (arith, f.seen_len) in
      let stays : (a : ℕ) → is_seen s a ≡ true → is_seen (set s v true) a ≡ true = seen_stays s v in_s in
      let not_seen : (a : ℕ) → is_seen s a ≡ true → a ≢ v = λ a h e. false≢true (sym is_new ∙ (ap (is_seen s) (sym e) ∙ h)) in
      record {
        seen_len = length-set s v true ∙ f.seen_len;
        passed_len = grind (arith, common_steps, f.passed_len);
        seen_on = λ a h. elim (seen_was s v a h) [
          | inl e ↦ inl (subst (Contains (p ++ v ∷ [])) (sym e) (Contains-push p v))
          | inr old ↦ elim (f.seen_on a old) [ inl c ↦ inl (Contains-append_left p (v ∷ []) a c) | inr c ↦ inr c ]
        ];
        path_seen = each_push (λ a. is_seen (set s v true) a ≡ true) p v (λ k h. stays _ (f.path_seen k h)) (seen_same s v in_s);
        order_seen = λ k h. stays _ (f.order_seen k h);
        path_once = once_push p v f.path_once (λ k h. not_seen _ (f.path_seen k h));
        order_once = f.order_once;
        apart = λ j k h l. elim (push_place p v j h) [
          | inl lj ↦ λ e. f.apart j k lj l (sym (push_old p v j lj) ∙ e)
          | inr ej ↦ λ e. not_seen _ (f.order_seen k l) (sym e ∙ push_new p v j ej)
        ];
        path_walk = walk_push (HasEdge g) p v f.path_walk edge;
        passed_seen = λ k j h l w. elim (push_place p v k h) [
          | inl lk ↦
              let e : slice_index (p ++ v ∷ []) k ≡ slice_index p k = push_old p v k lk in
              let lj : j < slice_index n k = subst (λ x. j < x) (push_old n 0 k (omega (arith, f.passed_len))) l in
              subst (λ a. is_seen (set s v true) (slice_index (targets g a) j) ≡ true) (sym e) (stays _ (f.passed_seen k j lk lj (subst (λ a. j < length (targets g a)) e w)))
          | inr ek ↦ absurd (let z : slice_index (n ++ 0 ∷ []) k ≡ 0 = push_new n 0 k (omega (arith, f.passed_len)) in omega arith)
        ];
        order_closed = λ k b h e. stays b (f.order_closed k b h e);
        order_after = f.order_after;
        reached = λ a h. elim (seen_was s v a h) [ inl e ↦ subst (Reached (HasEdge g) roots []) (sym e) reached | inr old ↦ f.reached a old ];
      }

  -- some more edges of the last node of the path are passed
  pub advanced : (v from to : ℕ) → Finishing g roots s (p ++ v ∷ []) (n ++ from ∷ []) o → ((j : ℕ) → from ≤ j → j < to → is_seen s (slice_index (targets g v) j) ≡ true) → Finishing g roots s (p ++ v ∷ []) (n ++ to ∷ []) o
  advanced v from to f all =
      let same_len : length n ≡ length p = omega (arith, f.passed_len, length_push n from, length_push p v) in
      record {
        seen_len = f.seen_len;
        passed_len = grind (arith, common_steps, f.passed_len);
        seen_on = f.seen_on;
        path_seen = f.path_seen;
        order_seen = f.order_seen;
        path_once = f.path_once;
        order_once = f.order_once;
        apart = f.apart;
        path_walk = f.path_walk;
        passed_seen = λ k j h l w. elim (push_place p v k h) [
          | inl lk ↦ f.passed_seen k j h (subst (λ x. j < x) (push_old n to k (omega arith) ∙ sym (push_old n from k (omega arith))) l) w
          | inr ek ↦
              let e : slice_index (p ++ v ∷ []) k ≡ v = push_new p v k ek in
              let lj : j < to = subst (λ x. j < x) (push_new n to k (omega arith)) l in
              elim (cases_lt j from) [
                | inl lf ↦ f.passed_seen k j h (subst (λ x. j < x) (sym (push_new n from k (omega arith))) lf) w
                | inr lf ↦ subst (λ a. is_seen s (slice_index (targets g a) j) ≡ true) (sym e) (all j lf lj)
              ]
        ];
        order_closed = f.order_closed;
        order_after = f.order_after;
        reached = f.reached;
      }

  module _ (v from : ℕ) (f : Finishing g roots s (p ++ v ∷ []) (n ++ from ∷ []) o) (rest : (j : ℕ) → from ≤ j → j < length (targets g v) → is_seen s (slice_index (targets g v) j) ≡ true) where
    same_len : length n ≡ length p
    same_len = omega (arith, f.passed_len, length_push n from, length_push p v)

    targets_seen : (b : ℕ) → HasEdge g v b → is_seen s b ≡ true
    targets_seen b = at_contained (λ a. is_seen s a ≡ true) (targets g v) (λ j h. elim (cases_lt j from) [
      | inl lf ↦
          let e : slice_index (p ++ v ∷ []) (length p) ≡ v = push_new p v (length p) refl in
          subst (λ a. is_seen s (slice_index (targets g a) j) ≡ true) e
          (f.passed_seen (length p) j (omega (arith, length_push p v)) (subst (λ x. j < x) (sym (push_new n from (length p) (sym same_len))) lf) (subst (λ a. j < length (targets g a)) (sym e) h))
      | inr lf ↦ rest j lf h
    ]) b

    more_closed : (k b : ℕ) → k < length (o ++ v ∷ []) → HasEdge g (slice_index (o ++ v ∷ []) k) b → is_seen s b ≡ true
    more_closed k b h e = elim (push_place o v k h) [
      | inl lk ↦ f.order_closed k b lk (subst (λ a. HasEdge g a b) (push_old o v k lk) e)
      | inr ek ↦ targets_seen b (subst (λ a. HasEdge g a b) (push_new o v k ek) e)
    ]

    -- what is seen is listed once v is, or leads to v
    listed_or_back : (b : ℕ) → is_seen s b ≡ true → Contains (o ++ v ∷ []) b ⊎ Leads (HasEdge g) b v
    listed_or_back b h = elim (f.seen_on b h) [
      | inl c ↦ elim (Contains-push_cases p v b c) [
        | inl on ↦ inr (leads_last (HasEdge g) p v f.path_walk b on)
        | inr e ↦ inl (subst (Contains (o ++ v ∷ [])) e (Contains-push o v))
      ]
      | inr c ↦ inl (Contains-append_left o (v ∷ []) b c)
    ]

    more_after : (j k b : ℕ) → j ≤ k → k < length (o ++ v ∷ []) → HasEdge g (slice_index (o ++ v ∷ []) j) b → Contains (take (k + 1) (o ++ v ∷ [])) b ⊎ Leads (HasEdge g) b (slice_index (o ++ v ∷ []) k)
    more_after j k b jk h e = elim (push_place o v k h) [
      | inl lk ↦ elim (f.order_after j k b jk lk (subst (λ a. HasEdge g a b) (push_old o v j (omega arith)) e)) [
        | inl c ↦ inl (subst (λ xs. Contains xs b) (sym (take-append-le (k + 1) o (v ∷ []) (omega arith))) c)
        | inr w ↦ inr (subst (Leads (HasEdge g) b) (sym (push_old o v k lk)) w)
      ]
      | inr ek ↦
          let whole : take (k + 1) (o ++ v ∷ []) ≡ o ++ v ∷ [] = take_all (k + 1) (o ++ v ∷ []) (omega (arith, length_push o v)) in
          elim (listed_or_back b (more_closed j b (omega arith) e)) [
            | inl c ↦ inl (subst (λ xs. Contains xs b) (sym whole) c)
            | inr w ↦ inr (subst (Leads (HasEdge g) b) (sym (push_new o v k ek)) w)
          ]
    ]

    -- the last node of the path goes into the order
    pub closed : Finishing g roots s p n (o ++ v ∷ [])
    closed = record {
      seen_len = f.seen_len;
      passed_len = same_len;
      seen_on = λ a h. elim (f.seen_on a h) [
        | inl c ↦ elim (Contains-push_cases p v a c) [ inl on ↦ inl on | inr e ↦ inr (subst (Contains (o ++ v ∷ [])) e (Contains-push o v)) ]
        | inr c ↦ inr (Contains-append_left o (v ∷ []) a c)
      ];
      path_seen = each_front (λ a. is_seen s a ≡ true) p v f.path_seen;
      order_seen = each_push (λ a. is_seen s a ≡ true) o v f.order_seen (each_last (λ a. is_seen s a ≡ true) p v f.path_seen);
      path_once = once_front p v f.path_once;
      order_once = once_push o v f.order_once (λ k h e. f.apart (length p) k (omega (arith, length_push p v)) h (push_new p v (length p) refl ∙ sym e));
      apart = λ j k h l. elim (push_place o v k l) [
        | inl lk ↦ λ e. f.apart j k (below_push p v j h) lk (push_old p v j h ∙ (e ∙ push_old o v k lk))
        | inr ek ↦ λ e. once_last p v f.path_once j h (e ∙ push_new o v k ek)
      ];
      path_walk = walk_front (HasEdge g) p v f.path_walk;
      passed_seen = λ k j h l w.
          let e : slice_index (p ++ v ∷ []) k ≡ slice_index p k = push_old p v k h in
          subst (λ a. is_seen s (slice_index (targets g a) j) ≡ true) e
          (f.passed_seen k j (below_push p v k h) (subst (λ x. j < x) (sym (push_old n from k (omega (arith, same_len)))) l) (subst (λ a. j < length (targets g a)) (sym e) w));
      order_closed = more_closed;
      order_after = more_after;
      reached = f.reached;
    }

-- The search is over.
module _ (g : List (Vec ℕ Global)) (roots : List ℕ) (s : List Bool) (o : List ℕ) (f : Finishing g roots s [] [] o) (roots_seen : (k : ℕ) → k < length roots → is_seen s (slice_index roots k) ≡ true) where
  in_order : (a : ℕ) → is_seen s a ≡ true → Contains o a
  in_order a h = elim (f.seen_on a h) [ inl c ↦ absurd (omega (arith, c.1)) | inr c ↦ c ]

  all_seen : {a : ℕ} → Reached (HasEdge g) roots [] a → is_seen s a ≡ true
  all_seen (from_start c) = at_contained (λ a. is_seen s a ≡ true) roots roots_seen _ c
  all_seen (from_member {a = a} {b = b} r on e) = at_contained (λ x. (y : ℕ) → HasEdge g x y → is_seen s y ≡ true) o (λ k h y. f.order_closed k y h) a (in_order a (all_seen r)) b e

  pub is_finished : IsFinished (HasEdge g) roots o
  is_finished = record {
    once = f.order_once;
    reached = λ a c. f.reached a (at_contained (λ x. is_seen s x ≡ true) o f.order_seen a c);
    listed = λ a r. in_order a (all_seen r);
    after = f.order_after;
  }
