-- The values of a table into which one is put.
use Rattle.std.proofs.Common.{◌≡◌, ◌⊎◌, ◌∙◌, ℕ, List, [], ◌∷◌, map, inl, inr, refl, ap}
use Rattle.std.specs.Ordering.{nat_cmp, match_ordering}
use Rattle.std.specs.Cmp.Lexicographic.{slice_cmp}
use Rattle.std.specs.List.{Contains}
use Rattle.std.specs.Map.{keys_of, values_of}
use Rattle.std.specs.declared.cmp.Ordering.{Ordering}
use Rattle.std.specs.declared.cmp.Ordering.TheVariants.{Less, Equal, Greater}
use Rattle.std.proofs.lemmas.List.Elements.{All-head, All-tail}
use Rattle.just_table.specs.Entries.{put, IsKeyed}
use Rattle.just_graph.proofs.Members.{In, contained, is_in}

module _ {V : Type 0} where
  in_put : (k : List ℕ) (v : V) (es : List (List ℕ × V)) → In v (values_of (put k v es))
  in_put k v [] = inl refl
  in_put k v (e ∷ es) = go (slice_cmp nat_cmp k e.0) (in_put k v es)
    where
      go : (o : Ordering) → In v (values_of (put k v es)) → In v (values_of (match_ordering o ((k, v) ∷ e ∷ es) ((e.0, v) ∷ es) (e ∷ put k v es)))
      go Less h = inl refl
      go Equal h = inl refl
      go Greater h = inr h

  -- the value that is put in stands there
  pub put_there : (k : List ℕ) (v : V) (es : List (List ℕ × V)) → Contains (values_of (put k v es)) v
  put_there k v es = contained v (values_of (put k v es)) (in_put k v es)

  put_in : (k : List ℕ) (v : V) (es : List (List ℕ × V)) (x : V) → In x (values_of (put k v es)) → (x ≡ v) ⊎ In x (values_of es)
  put_in k v [] x h = h
  put_in k v (e ∷ es) x h = go (slice_cmp nat_cmp k e.0) (put_in k v es x) h
    where
      go : (o : Ordering) → (In x (values_of (put k v es)) → (x ≡ v) ⊎ In x (values_of es)) → In x (values_of (match_ordering o ((k, v) ∷ e ∷ es) ((e.0, v) ∷ es) (e ∷ put k v es))) → (x ≡ v) ⊎ In x (values_of (e ∷ es))
      go Less ih (inl is) = inl is
      go Less ih (inr i) = inr i
      go Equal ih (inl is) = inl is
      go Equal ih (inr i) = inr (inr i)
      go Greater ih (inl is) = inr (inl is)
      go Greater ih (inr i) = elim (ih i) [ inl is ↦ inl is | inr j ↦ inr (inr j) ]

  -- another value stood there before
  pub put_cases : (k : List ℕ) (v : V) (es : List (List ℕ × V)) (x : V) → Contains (values_of (put k v es)) x → (x ≡ v) ⊎ Contains (values_of es) x
  put_cases k v es x c = elim (put_in k v es x (is_in x (values_of (put k v es)) c)) [ inl e ↦ inl e | inr i ↦ inr (contained x (values_of es) i) ]

  module _ (key_of : V → List ℕ) where
    abbrev Fits : List ℕ × V → Type 0
    Fits e = key_of e.1 ≡ e.0

    -- the keys of the values are those of the entries
    pub keyed_values : (es : List (List ℕ × V)) → IsKeyed key_of es → map key_of (values_of es) ≡ keys_of es
    keyed_values [] keyed = refl
    keyed_values (e ∷ es) keyed = ap (λ k. k ∷ map key_of (values_of es)) (All-head Fits e es keyed) ∙ ap (λ ks. e.0 ∷ ks) (keyed_values es (All-tail Fits e es keyed))
