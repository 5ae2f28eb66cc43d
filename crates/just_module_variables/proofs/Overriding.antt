-- The value that overrides a variable, by its number.
use Rattle.std.proofs.Common.{◌≡◌, ◌∙◌, ℕ, zero, suc, ◌<◌, ◌+◌, Bool, true, false, cond, List, [], ◌∷◌, ◌++◌, map, length, get_or, take, Option, None, Some, refl, sym, ap, inl, inr, ◌⊎◌, arith}
use Rattle.std.specs.Prelude.{if◌then◌else◌}
use Rattle.std.specs.List.{All, AllByRecursion, slice_get}
use Rattle.std.specs.Option.{option_or, option_to_list}
use Rattle.std.proofs.lemmas.List.Elements.{recursion_from_All}
use Rattle.std.proofs.lemmas.List.{take_more}
use Rattle.std.proofs.lemmas.Option.{same_Some, slice_get-get_or}
use Rattle.just_names.specs.Texts.{Text}
use Rattle.just_names.specs.declared.number.Number.{Number}
use Rattle.just_name_resolution.proofs.Sets.{number_itself, one_number}
use Rattle.just_parts.specs.Known.{Known}
use Rattle.just_parts.specs.Needs.{HaveNumbersApart, same_number}
use Rattle.just_ast_definitions.specs.declared.assignment.Assignment.{Assignment}
use Rattle.just_table.specs.Entries.{IsSorted, find}
use Rattle.just_name_resolution.proofs.Alike.{changed}
use Rattle.just_name_resolution.proofs.Placed.{different, entry_at, entry_found}
use Rattle.just_module_variables.specs.Overrides.{last_of, overrides_found}

or_none : (o : Option Text) → option_or o None ≡ o
or_none None = refl
or_none (Some t) = refl

or_itself : (o : Option Text) → option_or o o ≡ o
or_itself None = refl
or_itself (Some t) = refl

module _ (overrides : Text → Option Text) (n : Number) where
  -- one more variable
  last_more : (o : Option Text) (number : Number) (rest : List (Number × Text)) →
      last_of (map (λ (value : Text). (number, value)) (option_to_list o) ++ rest) n ≡ option_or (last_of rest n) (if same_number number n then o else None)
  last_more None number rest = sym (nothing (same_number number n) ∙ or_none (last_of rest n))
    where
      nothing : (b : Bool) → option_or (last_of rest n) (if b then None else None) ≡ option_or (last_of rest n) None
      nothing true = refl
      nothing false = refl
  last_more (Some value) number rest = refl

  module _ (name : Text) where
    -- a variable of this number has this name
    abbrev HasName : Text × Assignment → Type 0
    HasName entry = same_number entry.1.number n ≡ true → entry.0 ≡ name

    abbrev Either : List (Text × Assignment) → Type 0
    Either es = (last_of (overrides_found overrides es) n ≡ overrides name) ⊎ (last_of (overrides_found overrides es) n ≡ None)

    more : (e : Text × Assignment) (es : List (Text × Assignment)) (b : Bool) → same_number e.1.number n ≡ b →
        last_of (overrides_found overrides (e ∷ es)) n ≡ option_or (last_of (overrides_found overrides es) n) (if b then overrides e.0 else None)
    more e es b is =
        last_more (overrides e.0) e.1.number (overrides_found overrides es)
        ∙ ap (λ t. option_or (last_of (overrides_found overrides es) n) (if t then overrides e.0 else None)) is

    -- it is what overrides the name wherever a variable of this number was met
    met : (e : Text × Assignment) (es : List (Text × Assignment)) → HasName e → same_number e.1.number n ≡ true → Either es → last_of (overrides_found overrides (e ∷ es)) n ≡ overrides name
    met e es named is (inl same) = more e es true is ∙ (λ i. option_or (same i) (overrides (named is i))) ∙ or_itself (overrides name)
    met e es named is (inr none) = more e es true is ∙ (λ i. option_or (none i) (overrides (named is i)))

    either_more : (e : Text × Assignment) (es : List (Text × Assignment)) → HasName e → (b : Bool) → same_number e.1.number n ≡ b → Either es → Either (e ∷ es)
    either_more e es named true is rest = inl (met e es named is rest)
    either_more e es named false is (inl same) = inl (more e es false is ∙ or_none (last_of (overrides_found overrides es) n) ∙ same)
    either_more e es named false is (inr none) = inr (more e es false is ∙ or_none (last_of (overrides_found overrides es) n) ∙ none)

    either : (es : List (Text × Assignment)) → AllByRecursion HasName es → Either es
    either [] all = inr refl
    either (e ∷ es) all = either_more e es all.0 (same_number e.1.number n) refl (either es all.1)

    kept : (e : Text × Assignment) (es : List (Text × Assignment)) → HasName e → (b : Bool) → same_number e.1.number n ≡ b → last_of (overrides_found overrides es) n ≡ overrides name
        → last_of (overrides_found overrides (e ∷ es)) n ≡ overrides name
    kept e es named true is same = met e es named is (inl same)
    kept e es named false is same = more e es false is ∙ or_none (last_of (overrides_found overrides es) n) ∙ same

    last_named : (es : List (Text × Assignment)) → AllByRecursion HasName es → (i : ℕ) (a : Assignment) → slice_get es i ≡ Some (name, a) → a.number ≡ n → last_of (overrides_found overrides es) n ≡ overrides name
    last_named [] all i a there is = cc
    last_named (e ∷ es) all zero a there is =
        let same : e ≡ (name, a) = same_Some _ _ there in
        let number : e.1.number ≡ n = ap (λ (x : Text × Assignment). x.1.number) same ∙ is in
        met e es all.0 (ap (λ k. same_number k n) number ∙ number_itself n) (either es all.1)
    last_named (e ∷ es) all (suc i) a there is = kept e es all.0 (same_number e.1.number n) refl (last_named es all.1 i a there is)

-- so it is what overrides the one variable that has the number
module _ (m : Known) (sorted : IsSorted m.assignments) (apart : HaveNumbersApart m) (overrides : Text → Option Text) where
  pub last_overrides : (name : Text) (a : Assignment) → find name m.assignments ≡ Some a → last_of (overrides_found overrides m.assignments) a.number ≡ overrides name
  last_overrides name a found =
      let es = m.assignments in
      let at = entry_found es name a found in
      let all : All (HasName overrides a.number name) es = (λ k d l same.
      let e = get_or es k d in
      apart e.0 name e.1 a (entry_at es (different es sorted) k e.0 e.1 (slice_get-get_or es k d l)) found (one_number e.1.number a.number same)) in
      last_named overrides a.number name es (recursion_from_All (HasName overrides a.number name) es all) at.0 a at.1 refl

-- numbers of expressions make no difference
pub overrides_changed : (overrides : Text → Option Text) (f : Assignment → Assignment) → ((a : Assignment) → (f a).number ≡ a.number) → (es : List (Text × Assignment)) → overrides_found overrides (changed f es) ≡ overrides_found overrides es
overrides_changed overrides f same [] = refl
overrides_changed overrides f same (e ∷ es) =
    λ i. map (λ (value : Text). (same e.1 i, value)) (option_to_list (overrides e.0)) ++ overrides_changed overrides f same es i

-- one more value under a number
or_assoc : (a b c : Option Text) → option_or (option_or a b) c ≡ option_or a (option_or b c)
or_assoc None b c = refl
or_assoc (Some t) b c = refl

last_push : (es : List (Number × Text)) (e : Number × Text) (n : Number) → last_of (es ++ e ∷ []) n ≡ option_or (if same_number e.0 n then Some e.1 else None) (last_of es n)
last_push [] e n = sym (or_none (if same_number e.0 n then Some e.1 else None))
last_push (x ∷ es) e n =
    ap (λ o. option_or o (if same_number x.0 n then Some x.1 else None)) (last_push es e n)
    ∙ or_assoc (if same_number e.0 n then Some e.1 else None) (last_of es n) (if same_number x.0 n then Some x.1 else None)

pub last_more_put : (es : List (Number × Text)) (i : ℕ) (e d : Number × Text) (n : Number) (got was : Option Text) → i < length es → e ≡ get_or es i d → was ≡ last_of (take i es) n
    → got ≡ cond (same_number e.0 n) (Some e.1) was → got ≡ last_of (take (i + 1) es) n
last_more_put es i e d n got was h at so is =
    is ∙ either_put (same_number e.0 n) ∙ ap (option_or (if same_number e.0 n then Some e.1 else None)) so
    ∙ sym (last_push (take i es) e n) ∙ ap (λ (xs : List (Number × Text)). last_of xs n) (ap (λ (x : Number × Text). take i es ++ x ∷ []) at ∙ sym (take_more es i d h))
  where
    either_put : (b : Bool) → cond b (Some e.1) was ≡ option_or (if b then Some e.1 else None) was
    either_put true = refl
    either_put false = refl

-- where nothing is overridden none is found
pub nothing_found : (overrides : Text → Option Text) → ((name : Text) → overrides name ≡ None) → (es : List (Text × Assignment)) → overrides_found overrides es ≡ []
nothing_found overrides none [] = refl
nothing_found overrides none (e ∷ es) =
    ap (λ o. map (λ (value : Text). (e.1.number, value)) (option_to_list o) ++ overrides_found overrides es) (none e.0) ∙ nothing_found overrides none es

pub no_elements : {A : Type 0} (xs : List A) → length xs ≡ 0 → xs ≡ []
no_elements [] e = refl
no_elements (x ∷ xs) e = absurd (omega arith)
