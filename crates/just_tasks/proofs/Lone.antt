-- Recipes as they run: each as it is, or without what it depends on.
use Rattle.std.proofs.Common.{◌≡◌, ℕ, zero, suc, Bool, true, false, List, [], ◌∷◌, ◌++◌, length, map, take, drop, Some, refl, sym, ◌∙◌, subst}
use Rattle.std.specs.List.{All, Contains, slice_get}
use Rattle.std.proofs.lemmas.List.{length-map}
use Rattle.std.proofs.lemmas.List.Elements.{All-drop, All-nil, All-take}
use Rattle.just_graph.proofs.Index.{map_get}
use Rattle.just_recipe.specs.Recipes.{AreOrderedAfter, DependenciesStandFirst}
use Rattle.just_recipe.specs.declared.dependency.Dependency.{Dependency}
use Rattle.just_recipe.specs.declared.recipe.Recipe.{Recipe}
use Rattle.just_tasks.specs.Pairs.{AllBelow, at_place}
use Rattle.just_tasks.specs.Scene.{lone, running}
use Rattle.just_tasks.specs.declared.task.Task.{Task}

-- a recipe as it runs
abbrev pub as_run : Bool → Recipe Dependency → Recipe Dependency
as_run true r = lone r
as_run false r = r

pub running-length : (b : Bool) (rs : List (Recipe Dependency)) → length (running b rs) ≡ length rs
running-length true rs = length-map rs lone
running-length false rs = refl

pub running-below : (b : Bool) (rs : List (Recipe Dependency)) (ts : List Task) → AllBelow (length rs) ts → AllBelow (length (running b rs)) ts
running-below b rs ts h = subst (λ n. AllBelow n ts) (sym (running-length b rs)) h

pub running-at : (b : Bool) (rs : List (Recipe Dependency)) (k : ℕ) (r : Recipe Dependency) → slice_get rs k ≡ Some r → slice_get (running b rs) k ≡ Some (as_run b r)
running-at true rs k r at = map_get lone rs k r at
running-at false rs k r at = at

lone-ordered : (before : List ℕ) (rs : List (Recipe Dependency)) → AreOrderedAfter before rs → AreOrderedAfter before (map lone rs)
lone-ordered before [] h = tt
lone-ordered before (r ∷ rs) (new, needs, rest) = (new, All-nil (Contains before), lone-ordered (before ++ r.number.0 ∷ []) rs rest)

pub running-ordered : (b : Bool) (rs : List (Recipe Dependency)) → DependenciesStandFirst rs → DependenciesStandFirst (running b rs)
running-ordered true rs h = lone-ordered [] rs h
running-ordered false rs h = h

-- what it depends on is none, or what it was
pub lone-none : (part : Recipe Dependency → List Dependency) → ((r : Recipe Dependency) → part (lone r) ≡ []) → (rs : List (Recipe Dependency)) (k : ℕ) → at_place part (map lone rs) k ≡ []
lone-none part none [] k = refl
lone-none part none (r ∷ rs) zero = none r
lone-none part none (r ∷ rs) (suc k) = lone-none part none rs k

pub none-before : (rs : List (Recipe Dependency)) (k : ℕ) → at_place (λ r. take r.priors r.dependencies) (map lone rs) k ≡ []
none-before rs k = lone-none (λ r. take r.priors r.dependencies) (λ r. refl) rs k

pub none-after : (rs : List (Recipe Dependency)) (k : ℕ) → at_place (λ r. drop r.priors r.dependencies) (map lone rs) k ≡ []
none-after rs k = lone-none (λ r. drop r.priors r.dependencies) (λ r. refl) rs k

module _ (P : Dependency → Type 0) (r : Recipe Dependency) (ds : List Dependency) (h : All P r.dependencies) where
  pub running-priors : (b : Bool) → ds ≡ take (as_run b r).priors (as_run b r).dependencies → All P ds
  running-priors true is = subst (All P) (sym is) (All-nil P)
  running-priors false is = subst (All P) (sym is) (All-take P r.priors r.dependencies h)

  pub running-subsequents : (b : Bool) → ds ≡ drop (as_run b r).priors (as_run b r).dependencies → All P ds
  running-subsequents true is = subst (All P) (sym is) (All-nil P)
  running-subsequents false is = subst (All P) (sym is) (All-drop P r.priors r.dependencies h)

pub none-of-lone : (part : Recipe Dependency → List Dependency) → ((r : Recipe Dependency) → part (lone r) ≡ []) → (b : Bool) (r : Recipe Dependency) (ds : List Dependency) → ds ≡ part (as_run b r) → b ≡ true → ds ≡ []
none-of-lone part none true r ds is e = is ∙ none r
none-of-lone part none false r ds is e = absurd (cc)

-- it has the module and the path that it had
module _ (r : Recipe Dependency) where
  pub same-module : (b : Bool) → (as_run b r).module_path ≡ r.module_path
  same-module true = refl
  same-module false = refl

  pub same-path : (b : Bool) → (as_run b r).recipe_path ≡ r.recipe_path
  same-path true = refl
  same-path false = refl
