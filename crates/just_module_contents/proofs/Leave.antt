-- What settings give leave to, and what needs lists.
use Rattle.std.proofs.Common.{◌≡◌, ◌<◌, ℕ, ◌+◌, Bool, true, false, ◌||◌, List, ◌∷◌, drop, Some, refl, sym, ap, subst, ◌∙◌, arith, inl, inr}
use Rattle.std.specs.List.{slice_get}
use Rattle.std.proofs.lemmas.Bool.{cases_lt}
use Rattle.std.proofs.lemmas.List.{drop_more}
use Rattle.std.proofs.lemmas.Option.{get_or_from_slice_get, slice_get_within}
use Rattle.just_graph.proofs.Index.{some_same}
use Rattle.just_errors.specs.Causes.{Broken, Keeps}
use Rattle.just_errors.specs.declared.compile_error.CompileErrorKind.TheVariants as kind
use Rattle.just_names.specs.Texts.{Text}
use Rattle.just_names.specs.Token.{Place}
use Rattle.just_names.specs.declared.list_feature.ListFeature.{ListFeature}
use Rattle.just_ast_expressions.specs.declared.list_use.ListUse.{ListUse}
use Rattle.just_ast_definitions.specs.declared.setting.Set.{Set}
use Rattle.just_module_contents.specs.Rules.{BreaksLists, StandsFor, list_feature}
use Rattle.just_module_contents.specs.Settings.{allows_variables, is_allowing}

module _ (sets : List Set) (i : ℕ) (s : Set) (at : slice_get sets i ≡ Some s) (so : allows_variables sets ≡ allows_variables (drop i sets)) where
  split : allows_variables sets ≡ (is_allowing s || allows_variables (drop (i + 1) sets))
  split = so ∙ ap allows_variables (drop_more sets i s (slice_get_within sets i s at) ∙ ap (λ y. y ∷ drop (i + 1) sets) (get_or_from_slice_get sets i s s at))

  -- one that does, and one that does not
  pub allows_here : is_allowing s ≡ true → true ≡ allows_variables sets
  allows_here e = sym (split ∙ ap (λ b. b || allows_variables (drop (i + 1) sets)) e)

  pub allows_later : is_allowing s ≡ false → allows_variables sets ≡ allows_variables (drop (i + 1) sets)
  allows_later e = split ∙ ap (λ b. b || allows_variables (drop (i + 1) sets)) e

-- one more that a function stands for
pub stands_more : (names : List Text) (uses : List ListUse) (n : ℕ) (u : ListUse) → slice_get uses n ≡ Some u → StandsFor names u → ((k : ℕ) (used : ListUse) → k < n → slice_get uses k ≡ Some used → StandsFor names used)
    → (k : ℕ) (used : ListUse) → k < n + 1 → slice_get uses k ≡ Some used → StandsFor names used
stands_more names uses n u at stands before k used h is = elim (cases_lt k n) [
  | inl l ↦ before k used l is
  | inr l ↦ (let same : k ≡ n = omega (arith, h, l) in subst (StandsFor names) (some_same (sym at ∙ ap (slice_get uses) (sym same) ∙ is)) stands)
]

-- a function stands for each
pub uses_kept : (names : List Text) (uses : List ListUse) → ((k : ℕ) (used : ListUse) → slice_get uses k ≡ Some used → StandsFor names used) → Keeps (BreaksLists false names uses)
uses_kept names uses each _ (list_feature {used} i off at none) = none (each i used at)

-- none stands for one
pub needs_told : (names : List Text) (uses : List ListUse) (i : ℕ) (used : ListUse) (place : Place) (feature : ListFeature) → slice_get uses i ≡ Some used → (StandsFor names used → ⊥) → place ≡ used.token → feature ≡ used.feature
    → BreaksLists false names uses (Broken place (kind.ListFeature feature))
needs_told names uses i used place feature at none told is =
    subst (λ p. BreaksLists false names uses (Broken p (kind.ListFeature feature))) (sym told) (subst (λ f. BreaksLists false names uses (Broken used.token (kind.ListFeature f))) (sym is) (list_feature i refl at none))

-- where lists are on, nothing is refused
pub lists_on : (names : List Text) (uses : List ListUse) (on : Bool) → on ≡ true → Keeps (BreaksLists on names uses)
lists_on names uses on e _ (list_feature i off at none) = cc
