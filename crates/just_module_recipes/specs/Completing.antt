-- What a recipe is completed by before it is linked.
use Rattle.std.specs.Prelude.{◌≡◌, ℕ, ◌<◌, List, [], length, get_or}
use Rattle.just_module_contents.specs.Recipes.{recipe_at}
use Rattle.just_names.specs.declared.number.Number.{Number}
use Rattle.just_recipe.specs.declared.dependency.UnresolvedDependency.{UnresolvedDependency}
use Rattle.just_recipe.specs.declared.recipe.Recipe.{Recipe}

-- What recipes are completed to, and which numbers a recipe may have as those of the variables that it needs.
pub record Completion : Type 1 where
  pub by : Recipe UnresolvedDependency → Recipe UnresolvedDependency
  pub Needs : Recipe UnresolvedDependency → List Number → Type 0

abbrev pub completion : (Recipe UnresolvedDependency → Recipe UnresolvedDependency) → (Recipe UnresolvedDependency → List Number → Type 0) → Completion
completion by Needs = record { by = by; Needs = Needs }

-- the numbers are those that stand beside the recipe
pub record StandBeside (recipes : List (Recipe UnresolvedDependency)) (needed : List (List Number)) (r : Recipe UnresolvedDependency) (numbers : List Number) : Type 0 where
  pub place : ℕ
  pub there : place < length recipes
  pub recipe_is : recipe_at recipes place ≡ r
  pub numbers_are : numbers ≡ get_or needed place []
