-- Settings that are set twice, and those of which neither may be set beside the other.
use Rattle.std.proofs.Common.{◌≡◌, ℕ, ◌+◌, ◌<◌, Bool, true, false, ◌&&◌, ◌||◌, List, [], length, take, Option, None, Some, refl, sym, ◌∙◌, ap, subst, arith, inl, inr}
use Rattle.std.specs.List.{slice_get}
use Rattle.std.specs.Str.{bytes_eq}
use Rattle.std.proofs.Math.Bool.{or-false}
use Rattle.std.proofs.lemmas.Bool.{cases_lt}
use Rattle.std.proofs.lemmas.List.{get_or-map, length-map, take_all}
use Rattle.std.proofs.lemmas.List.Folds.{list_any_at, list_any_more}
use Rattle.std.proofs.lemmas.Option.{get_or_from_slice_get, slice_get_within}
use Rattle.std.proofs.lemmas.Slice.Eq.{bytes_eq-Decides}
use Rattle.just_names.specs.Texts.{Text}
use Rattle.just_names.specs.Name.{text_of_name}
use Rattle.just_names.specs.Token.{Place}
use Rattle.just_names.proofs.SameTexts.{same_or_not}
use Rattle.just_ast_expressions.specs.declared.keyword.Keyword.{Keyword}
use Rattle.just_ast_definitions.specs.declared.setting.Set.{Set}
use Rattle.just_errors.specs.Causes.{Broken, Keeps}
use Rattle.just_errors.specs.declared.compile_error.CompileErrorKind.TheVariants as kind
use Rattle.just_names.specs.Index.{AreDifferent, IsLast, Repeats, name_at}
use Rattle.just_module_contents.specs.Rules.{SetTwice, BreaksSettings, duplicate_set, incompatible_settings, set_twice}
use Rattle.just_module_contents.specs.Settings.{Conflicts, are_incompatible, excludes, line_at, no_set, place_at, set_at, setting_at, setting_names, stands_in}
use Rattle.just_names.proofs.Indexing.{texts_apart}

pub setting_name : (sets : List Set) (i : ℕ) → i < length sets → name_at (setting_names sets) i ≡ setting_at sets i
setting_name sets i h = get_or-map (λ (s : Set). text_of_name s.name) sets i no_set [] h

-- the name of what is set at a place
pub name_there : (sets : List Set) (i : ℕ) (s : Set) → slice_get sets i ≡ Some s → text_of_name s.name ≡ name_at (setting_names sets) i
name_there sets i s at = ap (λ (t : Set). text_of_name t.name) (sym (get_or_from_slice_get sets i s no_set at)) ∙ sym (setting_name sets i (slice_get_within sets i s at))

-- a setting that is set twice
pub set_twice_told : (sets : List Set) (i j : ℕ) (first second : Set) (place : Place) (setting : Text) (line : ℕ) → Repeats (setting_names sets) i j → slice_get sets i ≡ Some first → slice_get sets j ≡ Some second
    → place ≡ second.name.token → setting ≡ text_of_name second.name → line ≡ first.name.token.line → SetTwice sets (Broken place (kind.DuplicateSet setting line))
set_twice_told sets i j first second place setting line repeats a b at is on =
    let one = get_or_from_slice_get sets i first no_set a in
    let two = get_or_from_slice_get sets j second no_set b in
    let at_same : place_at sets j ≡ place = ap (λ (s : Set). s.name.token) two ∙ sym at in
    let is_same : setting_at sets j ≡ setting = ap (λ (s : Set). text_of_name s.name) two ∙ sym is in
    let on_same : line_at sets i ≡ line = ap (λ (s : Set). s.name.token.line) one ∙ sym on in
    subst (SetTwice sets) (λ k. Broken (at_same k) (kind.DuplicateSet (is_same k) (on_same k))) (duplicate_set i j repeats)

-- two settings of which neither may be set beside the other
pub incompatible_told : (conflicts : Conflicts) (sets : List Set) (i j : ℕ) (first second : Set) (place : Place) (a b : Text) (line : ℕ) → i < j → j < length sets → excludes conflicts sets i j ≡ true → excludes conflicts sets j i ≡ true
    → slice_get sets i ≡ Some first → slice_get sets j ≡ Some second → place ≡ second.name.token → a ≡ text_of_name first.name → line ≡ first.name.token.line → b ≡ text_of_name second.name
    → BreaksSettings conflicts sets (Broken place (kind.IncompatibleSettings a line b))
incompatible_told conflicts sets i j first second place a b line h l x y e f at is on known =
    let one = get_or_from_slice_get sets i first no_set e in
    let two = get_or_from_slice_get sets j second no_set f in
    let at_same : place_at sets j ≡ place = ap (λ (s : Set). s.name.token) two ∙ sym at in
    let is_same : setting_at sets i ≡ a = ap (λ (s : Set). text_of_name s.name) one ∙ sym is in
    let on_same : line_at sets i ≡ line = ap (λ (s : Set). s.name.token.line) one ∙ sym on in
    let as_same : setting_at sets j ≡ b = ap (λ (s : Set). text_of_name s.name) two ∙ sym known in
    subst (BreaksSettings conflicts sets) (λ k. Broken (at_same k) (kind.IncompatibleSettings (is_same k) (on_same k) (as_same k))) (incompatible_settings i j h l (λ k. x k && y k))

-- whether the second of two may not be set beside the first
pub excluded_is : (conflicts : Conflicts) (sets : List Set) (i j : ℕ) (first second : Set) (name : Text) (found : List Keyword) → slice_get sets i ≡ Some first → slice_get sets j ≡ Some second → name ≡ text_of_name second.name → found ≡ conflicts first.value
    → excludes conflicts sets j i ≡ stands_in name found
excluded_is conflicts sets i j first second name found e f is are =
    let one = get_or_from_slice_get sets i first no_set e in
    let two = get_or_from_slice_get sets j second no_set f in
    let named : setting_at sets j ≡ name = ap (λ (s : Set). text_of_name s.name) two ∙ sym is in
    let listed : conflicts (set_at sets i).value ≡ found = ap (λ (s : Set). conflicts s.value) one ∙ sym are in
    λ k. stands_in (named k) (listed k)

-- what is found is there
pub none_found : (found : Option ℕ) (j : ℕ) → found ≡ None → found ≡ Some j → ⊥
none_found found j none some = cc

-- What is set at a place, and the keywords that may not stand beside it.
module _ (conflicts : Conflicts) (sets : List Set) (place : ℕ) (second : Set) (there : slice_get sets place ≡ Some second) (xs : List Keyword) (are : xs ≡ conflicts second.value) where
  among : (i : ℕ) → excludes conflicts sets i place ≡ stands_in (setting_at sets i) xs
  among i = ap (λ (s : Set). stands_in (setting_at sets i) (conflicts s.value)) (get_or_from_slice_get sets place second no_set there) ∙ ap (stands_in (setting_at sets i)) (sym are)

  module _ (n : ℕ) (k : Keyword) (v : Text) (found : Option ℕ) (at : slice_get xs n ≡ Some k) (is : v ≡ k.lexeme) (last : IsLast (setting_names sets) (length (setting_names sets)) v found) where
    -- the setting that has the name of a keyword
    pub found_named : (j : ℕ) → found ≡ Some j → (j < length sets) × (setting_at sets j ≡ k.lexeme)
    found_named j e =
        let s = subst (IsLast (setting_names sets) (length (setting_names sets)) v) e last in
        let within : j < length sets = omega (arith, s.0, length-map sets (λ (t : Set). text_of_name t.name)) in
        (within, sym (setting_name sets j within) ∙ s.1 ∙ is)

    -- it may not stand beside this one
    pub found_excluded : (j : ℕ) → found ≡ Some j → excludes conflicts sets j place ≡ true
    found_excluded j e =
        let named = (found_named j e).1 in
        let test : Keyword → Bool = λ (x : Keyword). bytes_eq x.lexeme (setting_at sets j) in
        among j ∙ list_any_at test xs n k (slice_get_within xs n k at) (ap test (get_or_from_slice_get xs n k k at) ∙ (bytes_eq-Decides k.lexeme (setting_at sets j)).1 (sym named))

    -- one more keyword, where the setting of its name is looked at
    pub beside_more : AreDifferent (setting_names sets) → ((j : ℕ) → found ≡ Some j → j < place → excludes conflicts sets place j ≡ false)
        → ((i : ℕ) → i < place → stands_in (setting_at sets i) (take n xs) ≡ true → excludes conflicts sets place i ≡ false) → (i : ℕ) → i < place → stands_in (setting_at sets i) (take (n + 1) xs) ≡ true → excludes conflicts sets place i ≡ false
    beside_more different looked before i h stands = elim (same_or_not k.lexeme (setting_at sets i)) [
      | inl same ↦ by_found same found refl
      | inr ne ↦ before i h (sym (more ∙ ap (λ b. stands_in (setting_at sets i) (take n xs) || b) (texts_apart k.lexeme (setting_at sets i) ne) ∙ or-false (stands_in (setting_at sets i) (take n xs))) ∙ stands)
    ]
      where
        test : Keyword → Bool
        test x = bytes_eq x.lexeme (setting_at sets i)

        more : stands_in (setting_at sets i) (take (n + 1) xs) ≡ (stands_in (setting_at sets i) (take n xs) || bytes_eq k.lexeme (setting_at sets i))
        more = list_any_more test xs n k (slice_get_within xs n k at) ∙ ap (λ b. stands_in (setting_at sets i) (take n xs) || b) (ap test (get_or_from_slice_get xs n k k at))

        inside : i < length sets
        inside = omega (arith, h, slice_get_within sets place second there)

        many : length (setting_names sets) ≡ length sets
        many = length-map sets (λ (t : Set). text_of_name t.name)

        by_found : k.lexeme ≡ setting_at sets i → (o : Option ℕ) → found ≡ o → excludes conflicts sets place i ≡ false
        by_found same None e = absurd (subst (IsLast (setting_names sets) (length (setting_names sets)) v) e last i (omega (arith, inside, many)) (setting_name sets i inside ∙ sym same ∙ sym is))
        by_found same (Some j) e =
            let f = found_named j e in
            let alike : name_at (setting_names sets) i ≡ name_at (setting_names sets) j = setting_name sets i inside ∙ sym same ∙ sym f.1 ∙ sym (setting_name sets j f.0) in
            elim (cases_lt i j) [
              | inl b ↦ absurd (different i j b (omega (arith, f.0, many)) alike)
              | inr b ↦ elim (cases_lt j i) [
                | inl l ↦ absurd (different j i l (omega (arith, inside, many)) (sym alike))
                | inr l ↦
                    let at_same : j ≡ i = omega (arith, b, l) in
                    subst (λ q. excludes conflicts sets place q ≡ false) at_same (looked j e (omega (arith, h, at_same)))
              ]
            ]

  -- all keywords are looked at
  pub beside_all : (n : ℕ) → length xs ≡ n → ((i : ℕ) → i < place → stands_in (setting_at sets i) (take n xs) ≡ true → excludes conflicts sets place i ≡ false) → (i : ℕ) → i < place → are_incompatible conflicts sets i place ≡ false
  beside_all n all looked i h = by_cases (excludes conflicts sets i place) refl
    where
      by_cases : (b : Bool) → b ≡ excludes conflicts sets i place → (b && excludes conflicts sets place i) ≡ false
      by_cases false e = refl
      by_cases true e = looked i h (subst (λ (ks : List Keyword). stands_in (setting_at sets i) ks ≡ true) (sym (ap (λ m. take m xs) (sym all) ∙ take_all (length xs) xs (omega arith))) (sym (among i) ∙ sym e))

-- no setting is set twice, and of no two neither may be set beside the other
pub sets_kept : (conflicts : Conflicts) (sets : List Set) → AreDifferent (setting_names sets) → ((j : ℕ) → j < length sets → (i : ℕ) → i < j → are_incompatible conflicts sets i j ≡ false) → Keeps (BreaksSettings conflicts sets)
sets_kept conflicts sets different none _ (set_twice (duplicate_set i j r)) = different i j r.apart r.within r.same
sets_kept conflicts sets different none _ (incompatible_settings i j h l e) = let wrong : false ≡ true = sym (none j l i h) ∙ e in cc
