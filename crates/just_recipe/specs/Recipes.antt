-- Recipes as a list, each after those that it depends on.
use Rattle.std.specs.Prelude.{◌≡◌, ◌≤◌, ℕ, ◌<◌, ◌==◌, List, [], ◌∷◌, ◌++◌, map, length, Option, Some, IsSome, slice_index, find}
use Rattle.std.specs.List.{All, Contains}
use Rattle.just_ast_definitions.specs.Parameter.{least_arguments}
use Rattle.just_errors.specs.declared.invocation_error.InvocationError.{InvocationError}
use Rattle.just_errors.specs.declared.invocation_error.InvocationError.TheVariants as invocation
use Rattle.just_names.specs.Name.{text_of_name}
use Rattle.just_recipe.specs.Grouping.{concatenated}
use Rattle.just_recipe.specs.declared.dependency.Dependency.{Dependency}
use Rattle.just_recipe.specs.declared.dependency.DependencyArgument.{DependencyArgument}
use Rattle.just_recipe.specs.declared.recipe.Recipe.{Recipe}

-- the numbers of recipes, in order
abbrev pub numbers : List (Recipe Dependency) → List ℕ
numbers = map (λ r. r.number.0)

-- the numbers of the recipes that a recipe depends on, in order
abbrev pub needs : Recipe Dependency → List ℕ
needs recipe = map (λ d. d.recipe.0) recipe.dependencies

-- the arguments of a dependency, one after another
abbrev pub arguments_of : Dependency → List DependencyArgument
arguments_of d = concatenated d.arguments

-- no recipe has the number
abbrev pub IsNew : List (Recipe Dependency) → ℕ → Type 0
IsNew recipes number = Contains (numbers recipes) number → ⊥

-- no number is in both
abbrev pub ShareNoNumber : List (Recipe Dependency) → List (Recipe Dependency) → Type 0
ShareNoNumber these those = (number : ℕ) → Contains (numbers these) number → Contains (numbers those) number → ⊥

-- the recipe of a number
abbrev pub find_number : List (Recipe Dependency) → ℕ → Option (Recipe Dependency)
find_number recipes number = find (λ r. r.number.0 == number) recipes

-- the recipe at the place has the number
abbrev pub IsPlaceOf : List (Recipe Dependency) → ℕ → ℕ → Type 0
IsPlaceOf recipes number place = (place < length recipes) × (slice_index (numbers recipes) place ≡ number)

-- where these numbers stand already: each recipe has a number of its own, and depends on numbers that stand before it
abbrev pub AreOrderedAfter : List ℕ → List (Recipe Dependency) → Type 0
AreOrderedAfter before [] = Unit {0}
AreOrderedAfter before (r ∷ rs) = (Contains before r.number.0 → ⊥) × All (Contains before) (needs r) × AreOrderedAfter (before ++ r.number.0 ∷ []) rs

abbrev pub DependenciesStandFirst : List (Recipe Dependency) → Type 0
DependenciesStandFirst recipes = AreOrderedAfter [] recipes

-- the place of each recipe stands under its number
abbrev pub IsNumberIndex : List (Recipe Dependency) → (ℕ → Option ℕ) → Type 0
IsNumberIndex recipes place_of = (k : ℕ) → k < length recipes → place_of (slice_index (numbers recipes) k) ≡ Some k

-- A recipe as it is resolved: it has its path, and no more dependencies run before it than it has.
pub record IsResolved (recipe : Recipe Dependency) : Type 0 where
  pub path : IsSome recipe.recipe_path
  pub priors : recipe.priors ≤ length recipe.dependencies

module _ {D : Type 0} where
  -- A recipe takes so many arguments at least, so that it cannot be run by default.
  pub data CannotBeDefault (recipe : Recipe D) : InvocationError → Type 0 where
    requires_arguments : {least : ℕ} → least_arguments recipe.parameters ≡ least → 0 < least → CannotBeDefault recipe (invocation.DefaultRecipeRequiresArguments (text_of_name recipe.name) least)
