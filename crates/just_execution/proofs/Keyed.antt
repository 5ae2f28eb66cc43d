-- The walk with a table of keys gives the first occurrences, by key, of the unshared expansion.
use Rattle.std.proofs.Common.{◌≡◌, ℕ, zero, suc, ◌<◌, ◌≤◌, Bool, true, false, cond, ◌||◌, List, [], ◌∷◌, ◌++◌, map, refl, sym, ◌∙◌, ap, inl, inr, append_assoc, arith}
use Rattle.std.specs.Prelude.{flat_map}
use Rattle.std.proofs.lemmas.List.{append-nil, map-append}
use Rattle.std.proofs.lemmas.Bool.{cases_Bool, or_cases, or_left, or_right, cond-true, cond-false, true≢false, false_from_ne_true}
use Rattle.just_graph.proofs.Members.{In}
use Rattle.just_execution.specs.Firsts.{stands_among, without_key, firsts_by}
use Rattle.just_execution.specs.Expansion.{Part, Prepare, Block, same_part, part_key, expansion}
use Rattle.just_execution.proofs.Walks.{blocks, walk, walks}
use Rattle.just_execution.proofs.Keeps.{Exact, has-append, or_false, absorbed, regroup, swapped, has-two, has-twice}
use Rattle.just_execution.proofs.Ranks.{Below, part-exact, below-in, flat-from, ex-rank, ex-within, ex-both}
use Rattle.just_execution.proofs.Ranks.{blocks-append}

module _ {A K : Type 0} (same : K → K → Bool) (e : Exact same) (key : A → K) where
  abbrev pub keep : List K → List A → List A
  keep seen [] = []
  keep seen (x ∷ xs) = cond (stands_among same seen (key x)) (keep seen xs) (x ∷ keep (seen ++ (key x ∷ [])) xs)

  pub keep-seen : (seen : List K) (x : A) (xs : List A) → stands_among same seen (key x) ≡ true → keep seen (x ∷ xs) ≡ keep seen xs
  keep-seen seen x xs h = cond-true (stands_among same seen (key x)) _ _ h

  pub keep-new : (seen : List K) (x : A) (xs : List A) → stands_among same seen (key x) ≡ false → keep seen (x ∷ xs) ≡ x ∷ keep (seen ++ (key x ∷ [])) xs
  keep-new seen x xs h = cond-false (stands_among same seen (key x)) _ _ h

  pub keep-append : (xs ys : List A) (seen : List K) → keep seen (xs ++ ys) ≡ keep seen xs ++ keep (seen ++ map key (keep seen xs)) ys
  keep-append [] ys seen = ap (λ s. keep s ys) (sym (append-nil seen))
  keep-append (x ∷ xs) ys seen =
      elim (cases_Bool (stands_among same seen (key x))) [
        | inl h ↦ keep-seen seen x (xs ++ ys) h ∙ keep-append xs ys seen ∙ ap (λ t. t ++ keep (seen ++ map key t) ys) (sym (keep-seen seen x xs h))
        | inr h ↦ keep-new seen x (xs ++ ys) h
            ∙ ap (λ t. x ∷ t) (keep-append xs ys (seen ++ (key x ∷ [])) ∙ ap (λ s. keep (seen ++ (key x ∷ [])) xs ++ keep s ys) (append_assoc seen (key x ∷ []) (map key (keep (seen ++ (key x ∷ [])) xs))))
            ∙ ap (λ t. t ++ keep (seen ++ map key t) ys) (sym (keep-new seen x xs h))
      ]

  pub has-keep : (xs : List A) (seen : List K) (y : K) → stands_among same (seen ++ map key (keep seen xs)) y ≡ (stands_among same seen y || stands_among same (map key xs) y)
  has-keep [] seen y = ap (λ s. stands_among same s y) (append-nil seen) ∙ sym (or_false (stands_among same seen y))
  has-keep (x ∷ xs) seen y =
      elim (cases_Bool (stands_among same seen (key x))) [
        | inl h ↦ ap (λ t. stands_among same (seen ++ map key t) y) (keep-seen seen x xs h) ∙ has-keep xs seen y
            ∙ sym (absorbed (stands_among same seen y) (same (key x) y) (stands_among same (map key xs) y) (λ k. ap (stands_among same seen) (sym (e.only (key x) y k)) ∙ h))
        | inr h ↦ ap (λ t. stands_among same (seen ++ map key t) y) (keep-new seen x xs h)
            ∙ ap (λ s. stands_among same s y) (sym (append_assoc seen (key x ∷ []) (map key (keep (seen ++ (key x ∷ [])) xs))))
            ∙ has-keep xs (seen ++ (key x ∷ [])) y
            ∙ ap (λ b. b || stands_among same (map key xs) y) (has-append same seen (key x ∷ []) y)
            ∙ regroup (stands_among same seen y) (same (key x) y) (stands_among same (map key xs) y)
      ]

  pub keep-all_seen : (xs : List A) (seen : List K) → ((k : K) → stands_among same (map key xs) k ≡ true → stands_among same seen k ≡ true) → keep seen xs ≡ []
  keep-all_seen [] seen h = refl
  keep-all_seen (x ∷ xs) seen h =
      keep-seen seen x xs (h (key x) (or_left (same (key x) (key x)) (stands_among same (map key xs) (key x)) (e.itself (key x))))
      ∙ keep-all_seen xs seen (λ y k. h y (or_right (same (key x) y) (stands_among same (map key xs) y) k))

  pub keep-agree : (xs : List A) (s t : List K) → ((y : K) → stands_among same s y ≡ stands_among same t y) → keep s xs ≡ keep t xs
  keep-agree [] s t h = refl
  keep-agree (x ∷ xs) s t h =
      let more : (y : K) → stands_among same (s ++ (key x ∷ [])) y ≡ stands_among same (t ++ (key x ∷ [])) y = λ y. has-append same s (key x ∷ []) y ∙ ap (λ b. b || stands_among same (key x ∷ []) y) (h y) ∙ sym (has-append same t (key x ∷ []) y) in
      ap (λ b. cond b (keep s xs) (x ∷ keep (s ++ (key x ∷ [])) xs)) (h (key x))
      ∙ ap (λ u. cond (stands_among same t (key x)) u (x ∷ keep (s ++ (key x ∷ [])) xs)) (keep-agree xs s t h)
      ∙ ap (λ u. cond (stands_among same t (key x)) (keep t xs) (x ∷ u)) (keep-agree xs (s ++ (key x ∷ [])) (t ++ (key x ∷ [])) more)

  pub keep-without : (x : K) (xs : List A) (s : List K) → keep (s ++ (x ∷ [])) xs ≡ without_key same key x (keep s xs)
  keep-without x [] s = refl
  keep-without x (y ∷ ys) s =
      elim (cases_Bool (stands_among same s (key y))) [
        | inl h ↦
            let g : stands_among same (s ++ (x ∷ [])) (key y) ≡ true = has-append same s (x ∷ []) (key y) ∙ or_left (stands_among same s (key y)) (same x (key y) || false) h in
            keep-seen (s ++ (x ∷ [])) y ys g ∙ keep-without x ys s ∙ ap (without_key same key x) (sym (keep-seen s y ys h))
        | inr h ↦ elim (cases_Bool (same x (key y))) [
          | inl k ↦
              let g : stands_among same (s ++ (x ∷ [])) (key y) ≡ true = has-append same s (x ∷ []) (key y) ∙ or_right (stands_among same s (key y)) (same x (key y) || false) (or_left (same x (key y)) false k) in
              keep-seen (s ++ (x ∷ [])) y ys g
              ∙ keep-agree ys (s ++ (x ∷ [])) ((s ++ (key y ∷ [])) ++ (x ∷ [])) (λ z. has-twice same s x (key y) z (e.only x (key y) k))
              ∙ keep-without x ys (s ++ (key y ∷ []))
              ∙ sym (cond-true (same x (key y)) (without_key same key x (keep (s ++ (key y ∷ [])) ys)) _ k)
              ∙ ap (without_key same key x) (sym (keep-new s y ys h))
          | inr k ↦
              let g : stands_among same (s ++ (x ∷ [])) (key y) ≡ false = has-append same s (x ∷ []) (key y) ∙ ap (λ b. b || (same x (key y) || false)) h ∙ ap (λ b. b || false) k in
              keep-new (s ++ (x ∷ [])) y ys g
              ∙ ap (λ t. y ∷ t) (keep-agree ys ((s ++ (x ∷ [])) ++ (key y ∷ [])) ((s ++ (key y ∷ [])) ++ (x ∷ [])) (λ z. has-two same s x (key y) z ∙ swapped (stands_among same s z) (same x z) (same (key y) z) ∙ sym (has-two same s (key y) x z)) ∙ keep-without x ys (s ++ (key y ∷ [])))
              ∙ sym (cond-false (same x (key y)) _ (y ∷ without_key same key x (keep (s ++ (key y ∷ [])) ys)) k)
              ∙ ap (without_key same key x) (sym (keep-new s y ys h))
        ]
      ]

  pub firsts-keep : (xs : List A) → firsts_by same key xs ≡ keep [] xs
  firsts-keep [] = refl
  firsts-keep (x ∷ xs) = ap (λ t. x ∷ without_key same key (key x) t) (firsts-keep xs) ∙ ap (λ t. x ∷ t) (sym (keep-without (key x) xs []))

module _ {P K : Type 0} (same : K → K → Bool) (e : Exact same) (key : P → K) (priors : K → List P) (rank : K → ℕ) (lower : (k : K) → Below rank (rank k) (map key (priors k))) where
  abbrev pk : Part P → Part K
  pk x = part_key key x

  abbrev sp : Part K → Part K → Bool
  sp = same_part same

  abbrev hs : List (Part K) → Part K → Bool
  hs xs x = stands_among sp xs x

  -- the priors of a key, and its expansion, by keys alone
  abbrev kp : K → List K
  kp k = map key (priors k)

  abbrev kex : ℕ → K → List (Part K)
  kex n k = expansion kp n k

  abbrev ex : ℕ → P → List (Part P)
  ex n p = expansion (λ k. priors (key k)) n p

  abbrev kw : List (Part K) → List (Part P) → List (Part P)
  kw s xs = keep sp (part-exact same e) pk s xs

  flat-keys : (f : P → List (Part P)) (g : K → List (Part K)) → ((p : P) → map pk (f p) ≡ g (key p)) → (qs : List P) → map pk (flat_map f qs) ≡ flat_map g (map key qs)
  flat-keys f g h [] = refl
  flat-keys f g h (q ∷ qs) = map-append pk (f q) (flat_map f qs) ∙ ap (λ t. t ++ map pk (flat_map f qs)) (h q) ∙ ap (λ t. g (key q) ++ t) (flat-keys f g h qs)

  keys : (n : ℕ) (p : P) → map pk (ex n p) ≡ kex n (key p)
  keys zero p = refl
  keys (suc n) p = ap (λ t. Prepare (key p) ∷ t) (map-append pk (flat_map (ex n) (priors (key p))) (Block p ∷ []) ∙ ap (λ t. t ++ (Block (key p) ∷ [])) (flat-keys (ex n) (kex n) (keys n) (priors (key p))))

  record Closed (s : List (Part K)) : Type 0 where
    whole : (q : K) (m : ℕ) (x : Part K) → hs s (Block q) ≡ true → hs (kex m q) x ≡ true → hs s x ≡ true

  record Settled (n : ℕ) (s : List (Part K)) : Type 0 where
    done : (q : K) → rank q < n → hs s (Prepare q) ≡ true → hs s (Block q) ≡ true

  after : List (Part K) → List (Part P) → List (Part K)
  after s xs = s ++ map pk (kw s xs)

  after-has : (s : List (Part K)) (xs : List (Part P)) (ys : List (Part K)) → map pk xs ≡ ys → (y : Part K) → hs (after s xs) y ≡ (hs s y || hs ys y)
  unfolding after
  after-has s xs ys h y = has-keep sp (part-exact same e) pk xs s y ∙ ap (λ t. hs s y || hs t y) h

  after-closed : (n : ℕ) (p : P) (s : List (Part K)) → rank (key p) < n → Closed s → Closed (after s (ex n p))
  after-closed n p s l c = record {
    whole = λ q m x h g.
        after-has s (ex n p) (kex n (key p)) (keys n p) x ∙ elim (or_cases (hs s (Block q)) (hs (kex n (key p)) (Block q)) (sym (after-has s (ex n p) (kex n (key p)) (keys n p) (Block q)) ∙ h)) [
          | inl k ↦ or_left (hs s x) (hs (kex n (key p)) x) (c.whole q m x k g)
          | inr k ↦ or_right (hs s x) (hs (kex n (key p)) x) (ex-within same e kp rank lower n m (key p) q x l k g)
        ];
  }

  after-settled : (n : ℕ) (p : P) (k : ℕ) (s : List (Part K)) → Settled k s → Settled k (after s (ex n p))
  after-settled n p k s c = record {
    done = λ q b h.
        after-has s (ex n p) (kex n (key p)) (keys n p) (Block q) ∙ elim (or_cases (hs s (Prepare q)) (hs (kex n (key p)) (Prepare q)) (sym (after-has s (ex n p) (kex n (key p)) (keys n p) (Prepare q)) ∙ h)) [
          | inl g ↦ or_left (hs s (Block q)) (hs (kex n (key p)) (Block q)) (c.done q b g)
          | inr g ↦ or_right (hs s (Block q)) (hs (kex n (key p)) (Block q)) (ex-both same e kp rank lower n (key p) q g)
        ];
  }

  has-blocks : (s : List (Part K)) (p : K) → stands_among same (blocks s) p ≡ hs s (Block p)
  has-blocks [] p = refl
  has-blocks (Prepare q ∷ s) p = has-blocks s p
  has-blocks (Block q ∷ s) p = ap (λ b. same q p || b) (has-blocks s p)

  abbrev Keeps : ℕ → Type 0
  Keeps n = (p : P) (s : List (Part K)) → rank (key p) < n → Closed s → Settled (suc (rank (key p))) s → walk same key (λ k. priors (key k)) n (blocks s) p ≡ kw s (ex n p)

  walks-keeps : (n k : ℕ) (qs : List P) (s : List (Part K)) → Keeps n → k ≤ n → Below rank k (map key qs) → Closed s → Settled k s → walks key (walk same key (λ k. priors (key k)) n) (blocks s) qs ≡ kw s (flat_map (ex n) qs)
  unfolding after
  walks-keeps n k [] s ih l b c d = refl
  walks-keeps n k (q ∷ qs) s ih l b c d =
      let b0 = b.0 in
      let here : rank (key q) < n = omega arith in
      let low : Settled (suc (rank (key q))) s = record { done = λ r g h. d.done r (omega (arith, b.0)) h } in
      let one : walk same key (λ k. priors (key k)) n (blocks s) q ≡ kw s (ex n q) = ih q s here c low in
      let rest : walks key (walk same key (λ k. priors (key k)) n) (blocks (after s (ex n q))) qs ≡ kw (after s (ex n q)) (flat_map (ex n) qs) =
      walks-keeps n k qs (after s (ex n q)) ih l b.1 (after-closed n q s here c) (after-settled n q k s d) in
      ap (λ t. t ++ walks key (walk same key (λ k. priors (key k)) n) (blocks s ++ blocks (map pk t)) qs) one
      ∙ ap (λ t. kw s (ex n q) ++ walks key (walk same key (λ k. priors (key k)) n) t qs) (sym (blocks-append s (map pk (kw s (ex n q)))))
      ∙ ap (λ t. kw s (ex n q) ++ t) rest
      ∙ sym (keep-append sp (part-exact same e) pk (ex n q) (flat_map (ex n) qs) s)

  asked-closed : (p : K) (s : List (Part K)) → Closed s → Closed (s ++ (Prepare p ∷ []))
  asked-closed p s c = record {
    whole = λ q m x h g.
        has-append sp s (Prepare p ∷ []) x ∙ or_left (hs s x) (sp (Prepare p) x || false)
        (c.whole q m x (elim (or_cases (hs s (Block q)) false (sym (has-append sp s (Prepare p ∷ []) (Block q)) ∙ h)) [ inl k ↦ k | inr k ↦ absurd (true≢false (sym k)) ]) g);
  }

  asked-settled : (p : K) (s : List (Part K)) → Settled (suc (rank p)) s → Settled (rank p) (s ++ (Prepare p ∷ []))
  asked-settled p s d = record {
    done = λ q b h.
        has-append sp s (Prepare p ∷ []) (Block q) ∙ or_left (hs s (Block q)) false
        (d.done q (omega arith) (elim (or_cases (hs s (Prepare q)) (same p q || false) (sym (has-append sp s (Prepare p ∷ []) (Prepare q)) ∙ h)) [
          | inl k ↦ k
          | inr k ↦ elim (or_cases (same p q) false k) [
            | inl m ↦ let r : rank p ≡ rank q = ap rank (e.only p q m) in absurd (omega arith)
            | inr m ↦ absurd (true≢false (sym m))
          ]
        ]));
  }

  flat-k : (n : ℕ) (qs : List P) → map pk (flat_map (ex n) qs) ≡ flat_map (kex n) (map key qs)
  flat-k n qs = flat-keys (ex n) (kex n) (keys n) qs

  unblocked-after : (n : ℕ) (p : K) (s : List (Part K)) → hs s (Block p) ≡ false → hs (after (s ++ (Prepare p ∷ [])) (flat_map (ex n) (priors p))) (Block p) ≡ false
  unblocked-after n p s h = false_from_ne_true (hs (after (s ++ (Prepare p ∷ [])) (flat_map (ex n) (priors p))) (Block p)) (λ g.
      elim (or_cases (hs (s ++ (Prepare p ∷ [])) (Block p)) (hs (flat_map (kex n) (kp p)) (Block p)) (sym (after-has (s ++ (Prepare p ∷ [])) (flat_map (ex n) (priors p)) (flat_map (kex n) (kp p)) (flat-k n (priors p)) (Block p)) ∙ g)) [
        | inl k ↦ elim (or_cases (hs s (Block p)) false (sym (has-append sp s (Prepare p ∷ []) (Block p)) ∙ k)) [
          | inl m ↦ true≢false (sym m ∙ h)
          | inr m ↦ true≢false (sym m)
        ]
        | inr k ↦
            let f : (q : K) × (In q (kp p) × (hs (kex n q) (Block p) ≡ true)) = flat-from sp (kex n) (Block p) (kp p) k in
            let a : rank p ≤ rank f.0 = ex-rank same e kp rank lower n f.0 (Block p) f.1.1 in
            let b : rank f.0 < rank p = below-in rank (rank p) f.0 (kp p) (lower p) f.1.0 in
            absurd (omega arith)
      ])

  walk-keeps : (n : ℕ) → Keeps n
  unfolding after
  walk-keeps zero p s l c d = absurd (omega arith)
  walk-keeps (suc n) p s l c d = elim (cases_Bool (stands_among same (blocks s) (key p))) [
    | inl h ↦ cond-true (stands_among same (blocks s) (key p)) _ _ h ∙ sym (keep-all_seen sp (part-exact same e) pk (ex (suc n) p) s
        (λ x g. c.whole (key p) (suc n) x (sym (has-blocks s (key p)) ∙ h) (ap (λ t. hs t x) (sym (keys (suc n) p)) ∙ g)))
    | inr h ↦
        let unblocked : hs s (Block (key p)) ≡ false = sym (has-blocks s (key p)) ∙ h in
        let unasked : hs s (Prepare (key p)) ≡ false = false_from_ne_true (hs s (Prepare (key p))) (λ a. true≢false (sym (d.done (key p) (omega arith) a) ∙ unblocked)) in
        let s1 : List (Part K) = s ++ (Prepare (key p) ∷ []) in
        let F : List (Part P) = flat_map (ex n) (priors (key p)) in
        let same_blocks : blocks s ≡ blocks s1 = sym (append-nil (blocks s)) ∙ sym (blocks-append s (Prepare (key p) ∷ [])) in
        let inner : walks key (walk same key (λ k. priors (key k)) n) (blocks s) (priors (key p)) ≡ kw s1 F =
        ap (λ t. walks key (walk same key (λ k. priors (key k)) n) t (priors (key p))) same_blocks
        ∙ walks-keeps n (rank (key p)) (priors (key p)) s1 (walk-keeps n) (omega arith) (lower (key p)) (asked-closed (key p) s c) (asked-settled (key p) s d) in
        let last : kw (s1 ++ map pk (kw s1 F)) (Block p ∷ []) ≡ Block p ∷ [] = keep-new sp (part-exact same e) pk (s1 ++ map pk (kw s1 F)) (Block p) [] (unblocked-after n (key p) s unblocked) in
        cond-false (stands_among same (blocks s) (key p)) _ _ h
        ∙ ap (λ t. Prepare p ∷ (t ++ (Block p ∷ []))) inner
        ∙ ap (λ t. Prepare p ∷ (kw s1 F ++ t)) (sym last)
        ∙ ap (λ t. Prepare p ∷ t) (sym (keep-append sp (part-exact same e) pk F (Block p ∷ []) s1))
        ∙ sym (keep-new sp (part-exact same e) pk s (Prepare p) (F ++ (Block p ∷ [])) unasked)
  ]

  -- the theorem, with what a pair carries besides its key
  pub walks-firsts_by : (n : ℕ) (qs : List P) → Below rank n (map key qs) → walks key (walk same key (λ k. priors (key k)) n) [] qs ≡ firsts_by sp pk (flat_map (ex n) qs)
  walks-firsts_by n qs b =
      walks-keeps n n qs [] (walk-keeps n) (omega arith) b
      (record { whole = λ q m x h g. absurd (true≢false (sym h)) }) (record { done = λ q b h. h })
      ∙ sym (firsts-keep sp (part-exact same e) pk (flat_map (ex n) qs))
