-- The values of a table, each found under its name.
use Rattle.std.proofs.Common.{◌≡◌, ◌∙◌, Bool, true, false, cond, List, [], ◌∷◌, Some, refl, sym, ap, inl, inr}
use Rattle.std.specs.Cmp.Lexicographic.{slice_cmp}
use Rattle.std.specs.List.Sorted.{IsStrictlySortedBy}
use Rattle.std.specs.Map.{keys_of, values_of}
use Rattle.std.specs.Ordering.{is_eq, nat_cmp}
use Rattle.std.specs.Str.{bytes_eq}
use Rattle.std.specs.declared.cmp.Ordering.TheVariants.{Less}
use Rattle.std.proofs.lemmas.Bool.{cases_Bool}
use Rattle.std.proofs.lemmas.Map.Text.{is_eq-slice_cmp}
use Rattle.std.proofs.lemmas.Slice.Eq.{bytes_eq-Decides}
use Rattle.std.specs.List.{AllByRecursion}
use Rattle.just_graph.proofs.Members.{In}
use Rattle.just_names.specs.Texts.{Text}
use Rattle.just_table.specs.Entries.{IsSorted, find}

-- no text is below itself
not_below : (k : Text) → slice_cmp nat_cmp k k ≡ Less → ⊥
not_below k e = let wrong : is_eq Less ≡ true = ap is_eq (sym e) ∙ (is_eq-slice_cmp k k ∙ (bytes_eq-Decides k k).1 refl) in cc

module _ {V : Type 0} where
  below_one : (k : Text) (v : V) (key : Text) (es : List (Text × V)) → AllByRecursion (λ x. slice_cmp nat_cmp key x ≡ Less) (keys_of es) → In (k, v) es → slice_cmp nat_cmp key k ≡ Less
  below_one k v key [] below i = absurd i
  below_one k v key (e ∷ es) below (inl same) = ap (λ (x : Text × V). slice_cmp nat_cmp key x.0) same ∙ below.0
  below_one k v key (e ∷ es) below (inr i) = below_one k v key es below.1 i

  found_there : (es : List (Text × V)) → IsSorted es → (k : Text) (v : V) → In (k, v) es → find k es ≡ Some v
  unfolding IsStrictlySortedBy
  found_there [] sorted k v i = absurd i
  found_there (e ∷ es) sorted k v (inl same) =
      let t : bytes_eq k e.0 ≡ true = (bytes_eq-Decides k e.0).1 (ap (λ (x : Text × V). x.0) same) in
      ap (λ b. cond b (Some e.1) (find k es)) t ∙ ap (λ (x : Text × V). Some x.1) (sym same)
  found_there (e ∷ es) sorted k v (inr i) = elim (cases_Bool (bytes_eq k e.0)) [
    | inl t ↦ absurd (not_below k (ap (λ x. slice_cmp nat_cmp x k) ((bytes_eq-Decides k e.0).0 t) ∙ below_one k v e.0 es sorted.0 i))
    | inr f ↦ ap (λ b. cond b (Some e.1) (find k es)) f ∙ found_there es sorted.1 k v i
  ]

  in_values : (es : List (Text × V)) (v : V) → In v (values_of es) → (k : Text) × In (k, v) es
  in_values [] v i = absurd i
  in_values (e ∷ es) v (inl same) = (e.0, inl (λ i. (e.0, same i)))
  in_values (e ∷ es) v (inr i) = let f = in_values es v i in (f.0, inr f.1)

  -- a value stands under some name
  pub value_found : (es : List (Text × V)) → IsSorted es → (v : V) → In v (values_of es) → (k : Text) × (find k es ≡ Some v)
  value_found es sorted v i = let f = in_values es v i in (f.0, found_there es sorted f.0 v f.1)

  found_by : (b : Bool) (e : Text × V) (es : List (Text × V)) (k : Text) (v : V) → (find k es ≡ Some v → In v (values_of es)) → cond b (Some e.1) (find k es) ≡ Some v → In v (values_of (e ∷ es))
  found_by true e es k v rest h = let same : e.1 ≡ v = cc in inl (sym same)
  found_by false e es k v rest h = inr (rest h)

  -- what is found is a value
  pub found_in : (es : List (Text × V)) (k : Text) (v : V) → find k es ≡ Some v → In v (values_of es)
  found_in [] k v h = cc
  found_in (e ∷ es) k v h = found_by (bytes_eq k e.0) e es k v (found_in es k v) h
