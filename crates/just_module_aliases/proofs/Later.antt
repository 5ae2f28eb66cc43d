-- Which of two texts is less, which of two recipes is the later, and where a recipe is marked.
use Rattle.std.proofs.Common.{◌≡◌, ◌≢◌, ℕ, zero, suc, ◌+◌, ◌<◌, ◌⊎◌, Bool, true, false, IsTrue, List, [], ◌∷◌, length, Option, None, Some, refl, sym, ap, subst, ◌∙◌, arith, is_lt, inl, inr}
use Rattle.std.specs.Cmp.Lexicographic.{slice_cmp}
use Rattle.std.specs.Ordering.{nat_cmp, ordering_reverse}
use Rattle.std.specs.declared.cmp.Ordering.{Ordering}
use Rattle.std.specs.declared.cmp.Ordering.TheVariants.{Less, Equal, Greater}
use Rattle.std.proofs.lemmas.Bool.{cases_lt, false≢true}
use Rattle.std.proofs.lemmas.Cmp.{nat_list_cmp_total}
use Rattle.just_errors.specs.Causes.{Broken, Keeps}
use Rattle.just_errors.specs.declared.compile_error.CompileErrorKind.TheVariants as kind
use Rattle.just_names.specs.Token.{Place}
use Rattle.just_recipe.specs.declared.dependency.UnresolvedDependency.{UnresolvedDependency}
use Rattle.just_recipe.specs.declared.recipe.Recipe.{Recipe}
use Rattle.just_module_contents.specs.Defaults.{BreaksDefaults, IsLater, NoneMarked, duplicate_default, is_marked}
use Rattle.just_module_contents.specs.loops.Defaults.{IsMarkedPlace}
use Rattle.just_module_contents.specs.Recipes.{line_of, name_of_recipe, recipe_at, token_of}

abbrev pub cmp : List ℕ → List ℕ → Ordering
cmp = slice_cmp nat_cmp

pub greater_not_less : (o p : Ordering) → o ≡ ordering_reverse p → p ≡ Less → o ≢ Less
greater_not_less o Less e h = λ f. let g : Less ≡ Greater = sym f ∙ e in cc
greater_not_less o Equal e h = cc
greater_not_less o Greater e h = cc

pub less_by : (o : Ordering) (b : Bool) → b ≡ is_lt o → IsTrue b → o ≡ Less
less_by Less b e t = refl
less_by Equal b e t = absurd (false≢true (subst IsTrue e t))
less_by Greater b e t = absurd (false≢true (subst IsTrue e t))

pub not_less_by : (o : Ordering) (b : Bool) → b ≡ is_lt o → b ≡ false → o ≢ Less
not_less_by Less b e f = λ _. false≢true (sym f ∙ e)
not_less_by Equal b e f = λ l. cc
not_less_by Greater b e f = λ l. cc

-- the later of two recipes
pub later_by_line : (a b : Recipe UnresolvedDependency) → line_of a < line_of b → IsLater a b
later_by_line a b l = record { line = omega (arith, l); name = λ e. absurd (omega (arith, l, e)) }

pub later_by_name : (a b : Recipe UnresolvedDependency) → line_of a ≡ line_of b → cmp (name_of_recipe a) (name_of_recipe b) ≡ Less → IsLater a b
later_by_name a b e l = record { line = omega (arith, e); name = λ _. greater_not_less (cmp (name_of_recipe b) (name_of_recipe a)) (cmp (name_of_recipe a) (name_of_recipe b)) (nat_list_cmp_total.antisymm (name_of_recipe b) (name_of_recipe a)) l }

pub later_by_no_less : (a b : Recipe UnresolvedDependency) → line_of a ≡ line_of b → cmp (name_of_recipe a) (name_of_recipe b) ≢ Less → IsLater b a
later_by_no_less a b e n = record { line = omega (arith, e); name = λ _. n }

module _ (rs : List (Recipe UnresolvedDependency)) where
  -- two that are marked
  pub told_default : (i j : ℕ) (a b : Recipe UnresolvedDependency) (place : Place) (recipe : List ℕ) → i < length rs → j < length rs → i ≢ j → is_marked (recipe_at rs i) ≡ true → is_marked (recipe_at rs j) ≡ true
      → a ≡ recipe_at rs i → b ≡ recipe_at rs j → IsLater a b → place ≡ token_of b → recipe ≡ name_of_recipe b → BreaksDefaults rs (Broken place (kind.DuplicateDefault recipe))
  told_default i j a b place recipe h l apart first second one other later told said =
      subst (λ p. BreaksDefaults rs (Broken p (kind.DuplicateDefault recipe))) (sym (told ∙ ap token_of other))
      (subst (λ t. BreaksDefaults rs (Broken (token_of (recipe_at rs j)) (kind.DuplicateDefault t))) (sym (said ∙ ap name_of_recipe other))
      (duplicate_default i j h l apart first second (subst (λ x. IsLater x (recipe_at rs j)) one (subst (IsLater a) other later))))

  -- one more that is not marked, and one that is
  pub marks_none : (n : ℕ) (o : Option ℕ) → is_marked (recipe_at rs n) ≡ false → IsMarkedPlace rs n o → IsMarkedPlace rs (n + 1) o
  marks_none n None isnt so = λ k h. elim (cases_lt k n) [
    | inl l ↦ so k l
    | inr l ↦ (let same : n ≡ k = omega (arith, h, l) in subst (λ i. is_marked (recipe_at rs i) ≡ false) same isnt)
  ]
  marks_none n (Some p) isnt so = (
    omega (arith, so.0),
    so.1,
    λ k h apart. elim (cases_lt k n) [
      | inl l ↦ so.2 k l apart
      | inr l ↦ (let same : n ≡ k = omega (arith, h, l) in subst (λ i. is_marked (recipe_at rs i) ≡ false) same isnt)
    ],
  )

  pub marks_one : (n : ℕ) → is_marked (recipe_at rs n) ≡ true → IsMarkedPlace rs n None → IsMarkedPlace rs (n + 1) (Some n)
  marks_one n marked so = (
    omega arith,
    marked,
    λ k h apart. elim (cases_lt k n) [
      | inl l ↦ so k l
      | inr l ↦ (let same : k ≡ n = omega (arith, h, l) in absurd (apart same))
    ],
  )

  only_there : (p i : ℕ) → ((k : ℕ) → k < length rs → k ≢ p → is_marked (recipe_at rs k) ≡ false) → i < length rs → is_marked (recipe_at rs i) ≡ true → (i ≡ p → ⊥) → ⊥
  only_there p i others h marked apart = false≢true (sym (others i h apart) ∙ marked)

  -- one at most is marked
  pub one_marked : (o : Option ℕ) → IsMarkedPlace rs (length rs) o → Keeps (BreaksDefaults rs)
  one_marked None so _ (duplicate_default i j h l apart first second later) = false≢true (sym (so i h) ∙ first)
  one_marked (Some p) so _ (duplicate_default i j h l apart first second later) =
      only_there p i so.2 h first (λ e. only_there p j so.2 l second (λ f. apart (e ∙ sym f)))

none_more : (r : Recipe UnresolvedDependency) (rs : List (Recipe UnresolvedDependency)) → is_marked r ≡ false → NoneMarked rs → (k : ℕ) → k < length (r ∷ rs) → is_marked (recipe_at (r ∷ rs) k) ≡ false
none_more r rs e none zero h = e
none_more r rs e none (suc k) h = none k (omega (arith, h))

-- a recipe that is marked
abbrev pub IsOneMarked : List (Recipe UnresolvedDependency) → Type 0
IsOneMarked rs = (k : ℕ) × (k < length rs) × (is_marked (recipe_at rs k) ≡ true)

marked_by : (b : Bool) (r : Recipe UnresolvedDependency) (rs : List (Recipe UnresolvedDependency)) → is_marked r ≡ b → IsOneMarked rs ⊎ NoneMarked rs → IsOneMarked (r ∷ rs) ⊎ NoneMarked (r ∷ rs)
marked_by true r rs e rest = inl (0, omega arith, e)
marked_by false r rs e (inl there) = inl (suc there.0, omega (arith, there.1), there.2)
marked_by false r rs e (inr none) = inr (none_more r rs e none)

-- one is marked, or none
pub marked_or_none : (rs : List (Recipe UnresolvedDependency)) → IsOneMarked rs ⊎ NoneMarked rs
marked_or_none [] = inr (λ k h. absurd (omega (arith, h)))
marked_or_none (r ∷ rs) = marked_by (is_marked r) r rs refl (marked_or_none rs)
