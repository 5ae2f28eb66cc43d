-- The recipes of a module that stand: those that nothing disables; and rules of one recipe.
use Rattle.std.specs.Prelude.{ℕ, ◌<◌, List, [], ◌∷◌, length}
use Rattle.just_errors.specs.Causes.{Cause}
use Rattle.just_names.specs.Texts.{Text}
use Rattle.just_recipe.specs.declared.dependency.UnresolvedDependency.{UnresolvedDependency}
use Rattle.just_recipe.specs.declared.recipe.Recipe.{Recipe}
use Rattle.just_module_contents.specs.Recipes.{name_of_recipe, recipe_at}

-- Of recipes those that stand, in order, where a name tells which do.
pub data AreStanding (Stands : Text → Type 0) : List (Recipe UnresolvedDependency) → List (Recipe UnresolvedDependency) → Type 0 where
  none : AreStanding Stands [] []
  stands : {r : Recipe UnresolvedDependency} {rs standing : List (Recipe UnresolvedDependency)} → Stands (name_of_recipe r) → AreStanding Stands rs standing → AreStanding Stands (r ∷ rs) (r ∷ standing)
  falls : {r : Recipe UnresolvedDependency} {rs standing : List (Recipe UnresolvedDependency)} → (Stands (name_of_recipe r) → ⊥) → AreStanding Stands rs standing → AreStanding Stands (r ∷ rs) standing

-- A rule of one recipe is broken by one of these.
pub data InOne (rule : Recipe UnresolvedDependency → Cause → Type 0) (recipes : List (Recipe UnresolvedDependency)) : Cause → Type 0 where
  in_recipe : {c : Cause} (i : ℕ) → i < length recipes → rule (recipe_at recipes i) c → InOne rule recipes c

-- It is broken by one of these that stands.
pub data InStanding (Stands : Text → Type 0) (rule : Recipe UnresolvedDependency → Cause → Type 0) (recipes : List (Recipe UnresolvedDependency)) : Cause → Type 0 where
  of_standing : {c : Cause} (standing : List (Recipe UnresolvedDependency)) → AreStanding Stands recipes standing → InOne rule standing c → InStanding Stands rule recipes c
