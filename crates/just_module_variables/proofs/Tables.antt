-- Tables that are made again of their values.
use Rattle.std.proofs.Common.{◌≡◌, List, [], ◌∷◌, ◌++◌, map, refl, sym, ◌∙◌, ap, subst, append_assoc}
use Rattle.std.specs.Cmp.Lexicographic.{nat_list_cmp_total, slice_cmp}
use Rattle.std.specs.List.{AllByRecursion}
use Rattle.std.specs.List.Sorted.{IsStrictlySortedBy}
use Rattle.std.specs.Map.{keys_of, values_of}
use Rattle.std.specs.Ordering.{nat_cmp, match_ordering, ordering_reverse}
use Rattle.std.specs.declared.cmp.Ordering.TheVariants.{Greater, Less}
use Rattle.std.proofs.lemmas.List.{append-nil}
use Rattle.std.proofs.lemmas.List.Elements.{All-head, All-tail}
use Rattle.just_names.specs.Texts.{Text}
use Rattle.just_table.specs.Entries.{IsKeyed, IsSorted, put, put_all}
use Rattle.just_name_resolution.proofs.Alike.{changed, put_changed}

module _ {V : Type 0} where
  -- a key above those of all entries
  abbrev Above : Text → List (Text × V) → Type 0
  Above k es = AllByRecursion (λ x. slice_cmp nat_cmp k x ≡ Greater) (keys_of es)

  put_last : (k : Text) (v : V) (es : List (Text × V)) → Above k es → put k v es ≡ es ++ (k, v) ∷ []
  put_last k v [] above = refl
  put_last k v (e ∷ es) above =
      ap (λ o. match_ordering o ((k, v) ∷ e ∷ es) ((e.0, v) ∷ es) (e ∷ put k v es)) above.0 ∙ ap (λ (xs : List (Text × V)). e ∷ xs) (put_last k v es above.1)

  holds_between : (P : Text → Type 0) (before : List (Text × V)) (e : Text × V) (es : List (Text × V)) → AllByRecursion P (keys_of (before ++ e ∷ es)) → P e.0
  holds_between P [] e es all = all.0
  holds_between P (x ∷ before) e es all = holds_between P before e es all.1

  above_before : (before : List (Text × V)) (e : Text × V) (es : List (Text × V)) → IsSorted (before ++ e ∷ es) → Above e.0 before
  unfolding IsStrictlySortedBy
  above_before [] e es sorted = tt
  above_before (x ∷ before) e es sorted =
      (nat_list_cmp_total.antisymm e.0 x.0 ∙ ap ordering_reverse (holds_between (λ y. slice_cmp nat_cmp x.0 y ≡ Less) before e es sorted.0), above_before before e es sorted.1)

  module _ (key : V → Text) where
    put_rest : (before es : List (Text × V)) → IsSorted (before ++ es) → IsKeyed key es → put_all key before (values_of es) ≡ before ++ es
    put_rest before [] sorted keyed = sym (append-nil before)
    put_rest before (e ∷ es) sorted keyed =
        let same : key e.1 ≡ e.0 = All-head (λ (x : Text × V). key x.1 ≡ x.0) e es keyed in
        let more : before ++ e ∷ es ≡ (before ++ e ∷ []) ++ es = sym (append_assoc before (e ∷ []) es) in
        ap (λ xs. put_all key xs (values_of es)) (ap (λ k. put k e.1 before) same ∙ put_last e.0 e.1 before (above_before before e es sorted))
        ∙ (put_rest (before ++ e ∷ []) es (subst IsSorted more sorted) (All-tail (λ (x : Text × V). key x.1 ≡ x.0) e es keyed) ∙ sym more)

    -- the values of a table make it again
    pub put_again : (es : List (Text × V)) → IsSorted es → IsKeyed key es → put_all key [] (values_of es) ≡ es
    put_again es sorted keyed = put_rest [] es sorted keyed

    -- and changed values, under the same keys, the changed table
    pub put_map : (f : V → V) → ((x : V) → key (f x) ≡ key x) → (es : List (Text × V)) → IsSorted es → IsKeyed key es → put_all key [] (map f (values_of es)) ≡ changed f es
    put_map f same es sorted keyed = put_changed f key key same (values_of es) ∙ ap (changed f) (put_again es sorted keyed)
