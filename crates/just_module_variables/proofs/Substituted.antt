-- Tables that are made of values, and tables whose values are changed.
use Rattle.std.proofs.Common.{◌≡◌, ◌∙◌, List, [], ◌∷◌, refl, sym, ap, subst}
use Rattle.std.specs.Cmp.Lexicographic.{nat_list_cmp_total, slice_cmp}
use Rattle.std.specs.List.{AllByRecursion}
use Rattle.std.specs.List.Sorted.{IsStrictlySortedBy}
use Rattle.std.specs.Map.{keys_of}
use Rattle.std.specs.Ordering.{match_ordering, nat_cmp, ordering_reverse}
use Rattle.std.specs.declared.cmp.Ordering.{Ordering}
use Rattle.std.specs.declared.cmp.Ordering.TheVariants.{Equal, Greater, Less}
use Rattle.just_names.specs.Texts.{Text}
use Rattle.just_table.specs.Entries.{IsSorted, put, put_all}
use Rattle.just_name_resolution.proofs.Alike.{changed}

module _ {V : Type 0} where
  -- a key below those of all entries
  abbrev Below : Text → List (Text × V) → Type 0
  Below k es = AllByRecursion (λ x. slice_cmp nat_cmp k x ≡ Less) (keys_of es)

  below_all : (j k : Text) (es : List (Text × V)) → slice_cmp nat_cmp j k ≡ Less → Below k es → Below j es
  below_all j k [] less below = tt
  below_all j k (e ∷ es) less below = (nat_list_cmp_total.trans j k e.0 less below.0, below_all j k es less below.1)

  put_below : (j k : Text) (v : V) (es : List (Text × V)) → slice_cmp nat_cmp j k ≡ Less → Below j es → Below j (put k v es)
  put_below j k v [] less below = (less, tt)
  put_below j k v (e ∷ es) less below = by_order (put_below j k v es less below.1) (slice_cmp nat_cmp k e.0)
    where
      by_order : Below j (put k v es) → (o : Ordering) → Below j (match_ordering o ((k, v) ∷ e ∷ es) ((e.0, v) ∷ es) (e ∷ put k v es))
      by_order rest Less = (less, below)
      by_order rest Equal = below
      by_order rest Greater = (below.0, rest)

  put_sorted : (k : Text) (v : V) (es : List (Text × V)) → IsSorted es → IsSorted (put k v es)
  unfolding IsStrictlySortedBy
  put_sorted k v [] sorted = (tt, tt)
  put_sorted k v (e ∷ es) sorted = by_order (put_sorted k v es sorted.1) (slice_cmp nat_cmp k e.0) refl
    where
      by_order : IsSorted (put k v es) → (o : Ordering) → slice_cmp nat_cmp k e.0 ≡ o → IsSorted (match_ordering o ((k, v) ∷ e ∷ es) ((e.0, v) ∷ es) (e ∷ put k v es))
      by_order rest Less o = ((o, below_all k e.0 es o sorted.0), sorted)
      by_order rest Equal o = sorted
      by_order rest Greater o = (put_below e.0 k v es (nat_list_cmp_total.antisymm e.0 k ∙ ap ordering_reverse o) sorted.0, rest)

  pub all_sorted : (key : V → Text) (es : List (Text × V)) (vs : List V) → IsSorted es → IsSorted (put_all key es vs)
  all_sorted key es [] sorted = sorted
  all_sorted key es (v ∷ vs) sorted = all_sorted key (put (key v) v es) vs (put_sorted (key v) v es sorted)

  pub made_sorted : (key : V → Text) (vs : List V) → IsSorted (put_all key [] vs)
  unfolding IsStrictlySortedBy
  made_sorted key vs = all_sorted key [] vs tt

module _ {V W : Type 0} (f : V → W) where
  keys_changed : (es : List (Text × V)) → keys_of (changed f es) ≡ keys_of es
  keys_changed [] = refl
  keys_changed (e ∷ es) = ap (λ (ks : List Text). e.0 ∷ ks) (keys_changed es)

  pub changed_sorted : (es : List (Text × V)) → IsSorted es → IsSorted (changed f es)
  changed_sorted es sorted = subst (IsStrictlySortedBy (slice_cmp nat_cmp)) (sym (keys_changed es)) sorted

-- one change after another, and changes that come to the same
pub changed_again : {U V W : Type 0} (f : U → V) (g : V → W) (es : List (Text × U)) → changed g (changed f es) ≡ changed (λ x. g (f x)) es
changed_again f g [] = refl
changed_again {W = W} f g (e ∷ es) = ap (λ (xs : List (Text × W)). (e.0, g (f e.1)) ∷ xs) (changed_again f g es)

pub changed_same : {V W : Type 0} (f g : V → W) → ((x : V) → f x ≡ g x) → (es : List (Text × V)) → changed f es ≡ changed g es
changed_same f g same es = λ i. changed (λ x. same x i) es
