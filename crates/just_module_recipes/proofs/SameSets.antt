-- Members of sets that are joined.
use Rattle.std.proofs.Common.{◌≡◌, ℕ, ◌+◌, ◌<◌, List, [], ◌∷◌, ◌++◌, length, take, get_or, inl, inr, refl, sym, ◌∙◌, ap, subst, append_assoc, ◌⊎◌}
use Rattle.std.specs.List.{Contains}
use Rattle.std.specs.Ordering.{match_ordering}
use Rattle.std.specs.declared.cmp.Ordering.{Ordering}
use Rattle.std.specs.declared.cmp.Ordering.TheVariants.{Equal, Greater, Less}
use Rattle.std.specs.BTreeSet.{insert_key}
use Rattle.std.proofs.lemmas.List.{take_more}
use Rattle.std.proofs.lemmas.List.Elements.{Contains-append_left, Contains-append_right, Contains-append_cases, Contains-push_cases}
use Rattle.std.proofs.lemmas.Map.Lookups.{CmpEqualImpliesEq}
use Rattle.just_graph.proofs.Members.{In, contained, is_in, in_cases, in_left, in_right}
use Rattle.just_module_recipes.specs.loops.Rows.{SameMembers}

module _ {A : Type 0} where
  pub same : (xs ys : List A) → xs ≡ ys → SameMembers xs ys
  same xs ys e = record { into = λ x c. subst (λ zs. Contains zs x) e c; back = λ x c. subst (λ zs. Contains zs x) (sym e) c }

  pub members_then : (xs ys zs : List A) → SameMembers xs ys → SameMembers ys zs → SameMembers xs zs
  members_then xs ys zs s t = record { into = λ x c. t.into x (s.into x c); back = λ x c. s.back x (t.back x c) }

  -- what is there already
  pub there_already : (xs : List A) (y : A) → Contains xs y → SameMembers xs (xs ++ y ∷ [])
  there_already xs y c = record {
    into = λ x m. Contains-append_left xs (y ∷ []) x m;
    back = λ x m. elim (Contains-push_cases xs y x m) [ inl l ↦ l | inr e ↦ subst (Contains xs) e c ];
  }

  pub joined : (xs ys zs : List A) → SameMembers xs ys → SameMembers (xs ++ zs) (ys ++ zs)
  joined xs ys zs s = record {
    into = λ x c. elim (Contains-append_cases xs zs x c) [ inl l ↦ Contains-append_left ys zs x (s.into x l) | inr r ↦ Contains-append_right ys zs x r ];
    back = λ x c. elim (Contains-append_cases ys zs x c) [ inl l ↦ Contains-append_left xs zs x (s.back x l) | inr r ↦ Contains-append_right xs zs x r ];
  }

  -- one more: what is added to a set is added to the list
  pub one_more : (old start list next : List A) (more : List A) → SameMembers old (start ++ list) → SameMembers next (old ++ more) → SameMembers next (start ++ (list ++ more))
  one_more old start list next more s t = members_then next (old ++ more) (start ++ (list ++ more)) t (members_then (old ++ more) ((start ++ list) ++ more) (start ++ (list ++ more)) (joined old (start ++ list) more s) (same ((start ++ list) ++ more) (start ++ (list ++ more)) (append_assoc start list more)))

  pub taken : (xs : List A) (i : ℕ) (x : A) → i < length xs → x ≡ get_or xs i x → take (i + 1) xs ≡ take i xs ++ x ∷ []
  taken xs i x h is = take_more xs i x h ∙ ap (λ y. take i xs ++ y ∷ []) (sym is)

  -- a key that is put in where an order tells keys apart
  module _ (cmp : A → A → Ordering) (exact : CmpEqualImpliesEq cmp) (k : A) where
    into_step : (x : A) (xs : List A) (z : A) (o : Ordering) → cmp k x ≡ o → (In z (insert_key cmp xs k) → In z xs ⊎ (z ≡ k)) → In z (match_ordering o (k ∷ x ∷ xs) (x ∷ xs) (x ∷ insert_key cmp xs k)) → In z (x ∷ xs) ⊎ (z ≡ k)
    into_step x xs z Less e rest (inl h) = inr h
    into_step x xs z Less e rest (inr h) = inl h
    into_step x xs z Equal e rest h = inl h
    into_step x xs z Greater e rest (inl h) = inl (inl h)
    into_step x xs z Greater e rest (inr h) = elim (rest h) [ inl l ↦ inl (inr l) | inr r ↦ inr r ]

    into_keys : (xs : List A) (z : A) → In z (insert_key cmp xs k) → In z xs ⊎ (z ≡ k)
    into_keys [] z (inl h) = inr h
    into_keys [] z (inr h) = absurd h
    into_keys (x ∷ xs) z h = into_step x xs z (cmp k x) refl (into_keys xs z) h

    old_step : (x : A) (xs : List A) (z : A) (o : Ordering) → (In z xs → In z (insert_key cmp xs k)) → In z (x ∷ xs) → In z (match_ordering o (k ∷ x ∷ xs) (x ∷ xs) (x ∷ insert_key cmp xs k))
    old_step x xs z Less rest h = inr h
    old_step x xs z Equal rest h = h
    old_step x xs z Greater rest (inl h) = inl h
    old_step x xs z Greater rest (inr h) = inr (rest h)

    old_keys : (xs : List A) (z : A) → In z xs → In z (insert_key cmp xs k)
    old_keys [] z h = absurd h
    old_keys (x ∷ xs) z h = old_step x xs z (cmp k x) (old_keys xs z) h

    new_step : (x : A) (xs : List A) (o : Ordering) → cmp k x ≡ o → In k (insert_key cmp xs k) → In k (match_ordering o (k ∷ x ∷ xs) (x ∷ xs) (x ∷ insert_key cmp xs k))
    new_step x xs Less e rest = inl refl
    new_step x xs Equal e rest = inl (exact k x e)
    new_step x xs Greater e rest = inr rest

    new_key : (xs : List A) → In k (insert_key cmp xs k)
    new_key [] = inl refl
    new_key (x ∷ xs) = new_step x xs (cmp k x) refl (new_key xs)

    from_cases : (xs : List A) (z : A) → In z xs ⊎ (z ≡ k) → In z (xs ++ k ∷ [])
    from_cases xs z (inl h) = in_left z xs (k ∷ []) h
    from_cases xs z (inr e) = in_right z xs (k ∷ []) (inl e)

    into_cases : (xs : List A) (z : A) → In z xs ⊎ In z (k ∷ []) → In z (insert_key cmp xs k)
    into_cases xs z (inl h) = old_keys xs z h
    into_cases xs z (inr (inl e)) = subst (λ y. In y (insert_key cmp xs k)) (sym e) (new_key xs)
    into_cases xs z (inr (inr h)) = absurd h

    pub put_in : (xs next : List A) → next ≡ insert_key cmp xs k → SameMembers next (xs ++ k ∷ [])
    put_in xs next e = record {
      into = λ z c. contained z (xs ++ k ∷ []) (from_cases xs z (into_keys xs z (is_in z (insert_key cmp xs k) (subst (λ ys. Contains ys z) e c))));
      back = λ z c. subst (λ ys. Contains ys z) (sym e) (contained z (insert_key cmp xs k) (into_cases xs z (in_cases z xs (k ∷ []) (is_in z (xs ++ k ∷ []) c))));
    }
