-- Dependencies and the recipes beside them, one after another.
use Rattle.std.proofs.Common.{◌≡◌, ◌∙◌, ℕ, ◌+◌, ◌<◌, Bool, List, [], ◌∷◌, ◌++◌, length, take, get_or, Some, refl, sym, ap, subst, subst₂, arith, inl, inr}
use Rattle.std.specs.List.{slice_get}
use Rattle.std.proofs.lemmas.List.{length-take-le}
use Rattle.std.proofs.lemmas.Bool.{cases_lt}
use Rattle.std.proofs.lemmas.Option.{get_or_from_slice_get, slice_get_read, slice_get_within}
use Rattle.just_ast_definitions.specs.Parameter.{least_arguments, most_arguments}
use Rattle.just_errors.specs.Causes.{Cause, Keeps}
use Rattle.just_module_recipes.specs.Given.{Misgiven}
use Rattle.just_module_recipes.proofs.SameSets.{taken}
use Rattle.just_recipe.specs.declared.dependency.Dependency.{Dependency}
use Rattle.just_recipe.specs.declared.dependency.UnresolvedDependency.{UnresolvedDependency}
use Rattle.just_recipe.specs.declared.recipe.Recipe.{Recipe}
use Rattle.just_recipe_resolver.specs.Resolved.{GivesWrongly, gives, link_to, links_to}

module _ (lists : Bool) (ds : List UnresolvedDependency) (ts : List (Recipe Dependency)) where
  -- the dependency at a place gives the recipe beside it nothing wrong
  abbrev pub GivesRightly : ℕ → Type 0
  GivesRightly k = (d : UnresolvedDependency) (t : Recipe Dependency) → slice_get ds k ≡ Some d → slice_get ts k ≡ Some t → Keeps (Misgiven lists d (least_arguments t.parameters) (most_arguments lists t.parameters))

  abbrev pub GiveRightly : ℕ → Type 0
  GiveRightly n = (k : ℕ) → k < n → GivesRightly k

  -- one more
  pub right_more : (n : ℕ) (d : UnresolvedDependency) (t : Recipe Dependency) (least most : ℕ) → d ≡ get_or ds n d → t ≡ get_or ts n t → least ≡ least_arguments t.parameters → most ≡ most_arguments lists t.parameters → GiveRightly n → Keeps (Misgiven lists d least most) → GiveRightly (n + 1)
  right_more n d t least most at_d at_t is_least is_most old new k h = elim (cases_lt k n) [
    | inl l ↦ old k l
    | inr l ↦ (λ e f is_e is_f c m.
        let same : k ≡ n = omega (arith, h, l) in
        let ed : e ≡ d = sym (get_or_from_slice_get ds n e d (subst (λ j. slice_get ds j ≡ Some e) same is_e)) ∙ sym at_d in
        let ft : f ≡ t = sym (get_or_from_slice_get ts n f t (subst (λ j. slice_get ts j ≡ Some f) same is_f)) ∙ sym at_t in
        let here : Misgiven lists d (least_arguments t.parameters) (most_arguments lists t.parameters) c = subst₂ (λ (x : UnresolvedDependency) (y : Recipe Dependency). Misgiven lists x (least_arguments y.parameters) (most_arguments lists y.parameters) c) ed ft m in
        new c (subst₂ (λ a b. Misgiven lists d a b c) (sym is_least) (sym is_most) here))
  ]

  -- so it is of all
  pub right_all : GiveRightly (length ds) → Keeps (GivesWrongly lists ds ts)
  right_all all c (gives at d t is_d is_t m) = all at (slice_get_within ds at d is_d) d t is_d is_t c m

  -- and what one gives wrongly is told
  pub wrong_told : (n : ℕ) (d : UnresolvedDependency) (t : Recipe Dependency) (least most : ℕ) → n < length ds → n < length ts → d ≡ get_or ds n d → t ≡ get_or ts n t → least ≡ least_arguments t.parameters → most ≡ most_arguments lists t.parameters
      → (c : Cause) → Misgiven lists d least most c → GivesWrongly lists ds ts c
  wrong_told n d t least most in_d in_t at_d at_t is_least is_most c m =
      gives n d t (slice_get_read ds (length ds) n d refl in_d at_d) (slice_get_read ts (length ts) n t refl in_t at_t) (subst₂ (λ a b. Misgiven lists d a b c) is_least is_most m)

-- one more link
links_push : (lists : Bool) (ds : List UnresolvedDependency) (ts : List (Recipe Dependency)) (d : UnresolvedDependency) (t : Recipe Dependency) → length ts ≡ length ds → links_to lists (ds ++ d ∷ []) (ts ++ t ∷ []) ≡ links_to lists ds ts ++ link_to lists d t ∷ []
links_push lists [] [] d t e = refl
links_push lists [] (y ∷ ts) d t e = absurd (omega arith)
links_push lists (x ∷ ds) [] d t e = absurd (omega arith)
links_push lists (x ∷ ds) (y ∷ ts) d t e = ap (λ ls. link_to lists x y ∷ ls) (links_push lists ds ts d t (omega arith))

pub link_next : (lists : Bool) (ds : List UnresolvedDependency) (ts : List (Recipe Dependency)) (at : ℕ) (d : UnresolvedDependency) (t : Recipe Dependency) → at < length ds → at < length ts → d ≡ get_or ds at d → t ≡ get_or ts at t
    → (link : Dependency) (old new : List Dependency) → old ≡ links_to lists (take at ds) (take at ts) → link ≡ link_to lists d t → new ≡ old ++ link ∷ [] → new ≡ links_to lists (take (at + 1) ds) (take (at + 1) ts)
link_next lists ds ts at d t hd ht ed et link old new o l n =
    let same : length (take at ts) ≡ length (take at ds) = omega (arith, length-take-le at ts (omega arith), length-take-le at ds (omega arith)) in
    n ∙ (ap (λ xs. xs ++ link ∷ []) o ∙ (ap (λ (x : Dependency). links_to lists (take at ds) (take at ts) ++ x ∷ []) l
    ∙ (sym (links_push lists (take at ds) (take at ts) d t same)
    ∙ (ap (λ xs. links_to lists xs (take at ts ++ t ∷ [])) (sym (taken ds at d hd ed)) ∙ ap (links_to lists (take (at + 1) ds)) (sym (taken ts at t ht et))))))
