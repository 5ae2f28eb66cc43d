-- The numbers of names.
use Rattle.std.proofs.Common.{◌≡◌, zero, suc, Bool, true, false, cond, List, [], ◌∷◌, ◌++◌, Option, None, Some, if◌then◌else◌, refl, sym, ◌∙◌, ap, subst, arith}
use Rattle.std.specs.Cmp.Lexicographic.{nat_list_eq_equiv}
use Rattle.std.specs.Map.{keys_of, values_of}
use Rattle.std.specs.Option.{option_map, option_or}
use Rattle.std.specs.Str.{bytes_eq}
use Rattle.std.proofs.lemmas.List.Elements.{All-head, All-tail}
use Rattle.std.proofs.lemmas.Slice.Eq.{bytes_eq-Decides}
use Rattle.just_names.specs.Index.{AreDifferent}
use Rattle.just_names.specs.Texts.{Text}
use Rattle.just_names.specs.declared.number.Number.{Number}
use Rattle.just_table.specs.Entries.{IsKeyed, IsSorted, find}
use Rattle.just_name_resolution.proofs.Placed.{different, entry_found, key_at}

or_none : {A : Type 0} (o : Option A) → option_or o None ≡ o
or_none None = refl
or_none (Some x) = refl

-- what is chosen comes first
or_chosen : {A : Type 0} (b : Bool) (x : A) (o p : Option A) → option_or (if b then Some x else o) p ≡ (if b then Some x else option_or o p)
or_chosen true x o p = refl
or_chosen false x o p = refl

module _ {A : Type 0} (key : A → Text) (number : A → Number) where
  -- the number of the last of a name
  abbrev pub last_number : List A → Text → Option Number
  last_number [] name = None
  last_number (x ∷ xs) name = option_or (last_number xs name) (if bytes_eq (key x) name then Some (number x) else None)

  last_more : (xs : List A) (x : A) (name : Text) → last_number (xs ++ x ∷ []) name ≡ (if bytes_eq (key x) name then Some (number x) else last_number xs name)
  last_more [] x name = refl
  last_more (y ∷ xs) x name =
      let other : Option Number = if bytes_eq (key y) name then Some (number y) else None in
      ap (λ o. option_or o other) (last_more xs x name) ∙ or_chosen (bytes_eq (key x) name) (number x) (last_number xs name) other

  -- a map with one more
  pub numbers_more : (xs : List A) (x : A) (old new : Text → Option Number) (k : Text) → ((name : Text) → old name ≡ last_number xs name) → k ≡ key x
      → ((name : Text) → new name ≡ cond (bytes_eq k name) (Some (number x)) (old name)) → (name : Text) → new name ≡ last_number (xs ++ x ∷ []) name
  numbers_more xs x old new k before same after name =
      after name
      ∙ ((λ i. cond (bytes_eq (same i) name) (Some (number x)) (before name i)) ∙ sym (last_more xs x name))

  -- under a key that is there once
  not_after : (e : Text × A) (es : List (Text × A)) → AreDifferent (keys_of (e ∷ es)) → (o : Option A) → find e.0 es ≡ o → find e.0 es ≡ None
  not_after e es apart None is = is
  not_after e es apart (Some x) is =
      let at = entry_found es e.0 x is in
      let there = key_at es at.0 (e.0, x) at.1 in
      absurd (apart zero (suc at.0) (omega arith) (omega (arith, there.0)) (sym there.1))

  last_found : (es : List (Text × A)) → AreDifferent (keys_of es) → IsKeyed key es → (name : Text) → last_number (values_of es) name ≡ option_map number (find name es)
  last_found [] apart keyed name = refl
  last_found (e ∷ es) apart keyed name =
      let same : key e.1 ≡ e.0 = All-head (λ (x : Text × A). key x.1 ≡ x.0) e es keyed in
      let rest = last_found es (λ i j l h. apart (suc i) (suc j) (omega arith) (omega arith)) (All-tail (λ (x : Text × A). key x.1 ≡ x.0) e es keyed) name in
      (λ i. option_or (rest i) (if bytes_eq (same i) name then Some (number e.1) else None))
      ∙ by_test (bytes_eq e.0 name) (bytes_eq name e.0) (nat_list_eq_equiv.symm e.0 name)
      (λ t. subst (λ k. find k es ≡ None) ((bytes_eq-Decides e.0 name).0 t) (not_after e es apart (find e.0 es) refl))
    where
      by_test : (b c : Bool) → b ≡ c → (b ≡ true → find name es ≡ None)
          → option_or (option_map number (find name es)) (if b then Some (number e.1) else None) ≡ option_map number (cond c (Some e.1) (find name es))
      by_test true true is none = ap (λ (o : Option A). option_or (option_map number o) (Some (number e.1))) (none refl)
      by_test false false is none = or_none (option_map number (find name es))
      by_test true false is none = cc
      by_test false true is none = cc

  -- a map of all has the number of each
  pub numbers_found : (es : List (Text × A)) → IsSorted es → IsKeyed key es → (numbers : Text → Option Number) → ((name : Text) → numbers name ≡ last_number (values_of es) name)
      → (name : Text) → numbers name ≡ option_map number (find name es)
  numbers_found es sorted keyed numbers are name = are name ∙ last_found es (different es sorted) keyed name
