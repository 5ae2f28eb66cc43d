-- Loops that list what passes a test, and what things have one after another.
use Rattle.std.proofs.Common.{◌≡◌, ℕ, ◌+◌, ◌<◌, ◌≤◌, Bool, true, false, cond, List, [], ◌∷◌, ◌++◌, map, length, get_or, take, Option, None, Some, refl, sym, ap, subst, ◌∙◌}
use Rattle.std.specs.Borrow.{Bor}
use Rattle.std.specs.List.{All, cons_option, filter, filter_map}
use Rattle.std.specs.Option.{option_to_list}
use Rattle.std.proofs.lemmas.List.{append-nil, append_assoc, map-append, take_all, take_more}
use Rattle.std.proofs.lemmas.List.Elements.{All-push, filter-append, filter_map-append, filter_more}
use Rattle.just_justfile.specs.declared.justfile.Justfile.{Justfile}
use Rattle.just_listings.specs.Order.{referents}
use Rattle.just_listings.specs.Joined.{AreHadInTurn, more, nothing}

module _ {X : Type 0} where
  -- one more of which it holds
  pub all_pushed : (P : X → Type 0) (xs ys : List X) (x : X) → ys ≡ xs ++ x ∷ [] → All P xs → P x → All P ys
  all_pushed P xs ys x pushed all here = subst (All P) (sym pushed) (All-push P xs x all here)

  -- one more that a reference leads to
  pub behind_more : (items : List (Bor X)) (i : ℕ) (x : Bor X) → i < length items → x ≡ get_or items i x → referents (take (i + 1) items) ≡ referents (take i items) ++ x.now ∷ []
  behind_more items i x within at =
      ap referents (take_more items i x within) ∙ map-append (λ (it : Bor X). it.now) (take i items) (get_or items i x ∷ []) ∙ ap (λ (y : Bor X). referents (take i items) ++ y.now ∷ []) (sym at)

  -- one more reference to what stands next
  pub taken_more : (xs : List X) (i : ℕ) (x : X) (ps qs : List (Bor X)) (p : Bor X) → i < length xs → x ≡ get_or xs i x → p.now ≡ x → qs ≡ ps ++ p ∷ [] → referents ps ≡ take i xs → referents qs ≡ take (i + 1) xs
  taken_more xs i x ps qs p within at is pushed listed =
      ap referents pushed ∙ map-append (λ (it : Bor X). it.now) ps (p ∷ []) ∙ ap (λ zs. zs ++ p.now ∷ []) listed ∙ ap (λ (y : X). take i xs ++ y ∷ []) (is ∙ at) ∙ sym (take_more xs i x within)

  -- all are listed
  pub all_passed : (test : X → Bool) (xs : List X) (i : ℕ) (ys : List X) → length xs ≤ i → ys ≡ filter test (take i xs) → ys ≡ filter test xs
  all_passed test xs i ys through listed = listed ∙ ap (filter test) (take_all i xs through)

-- one after another
module _ {X : Type 0} (Has : Justfile → List X → Type 0) where
  pub joined_none : (js : List Justfile) (xs : List X) → js ≡ [] → xs ≡ [] → AreHadInTurn Has js xs
  joined_none js xs none empty = subst (λ ks. AreHadInTurn Has ks xs) (sym none) (subst (AreHadInTurn Has []) (sym empty) nothing)

  pub joined_more : (js : List Justfile) (j : Justfile) (xs here : List X) → AreHadInTurn Has js xs → Has j here → AreHadInTurn Has (js ++ j ∷ []) (xs ++ here)
  joined_more [] j _ here nothing has = subst (AreHadInTurn Has (j ∷ [])) (append-nil here) (more has nothing)
  joined_more (k ∷ js) j _ here (more {here = first} {rest = rest} had others) has =
      subst (AreHadInTurn Has (k ∷ (js ++ j ∷ []))) (sym (append_assoc first rest here)) (more had (joined_more js j rest here others has))

module _ {P X : Type 0} (view : P → X) (test : X → Bool) where
  one : (x : X) (b : Bool) → test x ≡ b → filter test (x ∷ []) ≡ cond b (x ∷ []) []
  one x b e = ap (λ c. cond c (x ∷ []) []) e

  -- one more that passes, which is listed
  pub more_kept : (xs : List X) (i : ℕ) (x : X) (ps qs : List P) (p : P) → i < length xs → x ≡ get_or xs i x → test x ≡ true → view p ≡ x → qs ≡ ps ++ p ∷ [] →
      map view ps ≡ filter test (take i xs) → map view qs ≡ filter test (take (i + 1) xs)
  more_kept xs i x ps qs p within at passes seen pushed listed =
      let e : filter test (take (i + 1) xs) ≡ filter test (take i xs) ++ cond (test (get_or xs i x)) (get_or xs i x ∷ []) [] = filter_more test xs i x within in
      let here : cond (test (get_or xs i x)) (get_or xs i x ∷ []) [] ≡ x ∷ [] = ap (λ (y : X). cond (test y) (y ∷ []) []) (sym at) ∙ ap (λ c. cond c (x ∷ []) []) passes in
      ap (map view) pushed ∙ map-append view ps (p ∷ []) ∙ ap (λ zs. zs ++ view p ∷ []) listed ∙ ap (λ (y : X). filter test (take i xs) ++ y ∷ []) seen
      ∙ sym (e ∙ ap (λ zs. filter test (take i xs) ++ zs) here)

  -- one more that does not
  pub more_left : (xs : List X) (i : ℕ) (x : X) (ps : List P) → i < length xs → x ≡ get_or xs i x → test x ≡ false → map view ps ≡ filter test (take i xs) → map view ps ≡ filter test (take (i + 1) xs)
  more_left xs i x ps within at fails listed =
      let e : filter test (take (i + 1) xs) ≡ filter test (take i xs) ++ cond (test (get_or xs i x)) (get_or xs i x ∷ []) [] = filter_more test xs i x within in
      let here : cond (test (get_or xs i x)) (get_or xs i x ∷ []) [] ≡ [] = ap (λ (y : X). cond (test y) (y ∷ []) []) (sym at) ∙ ap (λ c. cond c (x ∷ []) []) fails in
      listed ∙ sym (e ∙ ap (λ zs. filter test (take i xs) ++ zs) here ∙ append-nil (filter test (take i xs)))

  module _ {A V : Type 0} (h : V → Option X) (now : A → V) where
    found : (o : Option X) → cons_option o [] ≡ option_to_list o
    found None = refl
    found (Some x) = refl

    further : (us : List A) (u : A) → filter test (filter_map h (map now (us ++ u ∷ []))) ≡ filter test (filter_map h (map now us)) ++ filter test (option_to_list (h (now u)))
    further us u =
        ap (λ vs. filter test (filter_map h vs)) (map-append now us (u ∷ []))
        ∙ ap (filter test) (filter_map-append h (map now us) (now u ∷ []))
        ∙ filter-append test (filter_map h (map now us)) (cons_option (h (now u)) [])
        ∙ ap (λ zs. filter test (filter_map h (map now us)) ++ filter test zs) (found (h (now u)))

    -- the next leads to one that passes, which is listed
    pub next_kept : (us : List A) (u : A) (x : X) (ps qs : List P) (p : P) → h (now u) ≡ Some x → test x ≡ true → view p ≡ x → qs ≡ ps ++ p ∷ [] →
        map view ps ≡ filter test (filter_map h (map now us)) → map view qs ≡ filter test (filter_map h (map now (us ++ u ∷ [])))
    next_kept us u x ps qs p leads passes seen pushed listed =
        let here : filter test (option_to_list (h (now u))) ≡ x ∷ [] = ap (λ o. filter test (option_to_list o)) leads ∙ one x true passes in
        ap (map view) pushed ∙ map-append view ps (p ∷ []) ∙ ap (λ zs. zs ++ view p ∷ []) listed ∙ ap (λ (y : X). filter test (filter_map h (map now us)) ++ y ∷ []) seen
        ∙ sym (further us u ∙ ap (λ zs. filter test (filter_map h (map now us)) ++ zs) here)

    -- the next leads to none that passes
    stays : (us : List A) (u : A) (ps : List P) → filter test (option_to_list (h (now u))) ≡ [] → map view ps ≡ filter test (filter_map h (map now us)) → map view ps ≡ filter test (filter_map h (map now (us ++ u ∷ [])))
    stays us u ps here listed =
        listed ∙ sym (further us u ∙ ap (λ zs. filter test (filter_map h (map now us)) ++ zs) here ∙ append-nil (filter test (filter_map h (map now us))))

    pub next_left : (us : List A) (u : A) (x : X) (ps : List P) → h (now u) ≡ Some x → test x ≡ false → map view ps ≡ filter test (filter_map h (map now us)) → map view ps ≡ filter test (filter_map h (map now (us ++ u ∷ [])))
    next_left us u x ps leads fails listed = stays us u ps (ap (λ o. filter test (option_to_list o)) leads ∙ one x false fails) listed

    pub next_missing : (us : List A) (u : A) (ps : List P) → h (now u) ≡ None → map view ps ≡ filter test (filter_map h (map now us)) → map view ps ≡ filter test (filter_map h (map now (us ++ u ∷ [])))
    next_missing us u ps none listed = stays us u ps (ap (λ o. filter test (option_to_list o)) none) listed
