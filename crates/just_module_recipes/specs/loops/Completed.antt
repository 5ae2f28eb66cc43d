-- What private functions say beside `Completed.antt`.
use Rattle.std.specs.Prelude.{◌≡◌, ℕ, ◌<◌, List, [], length}
use Rattle.just_errors.specs.Causes.{Cause}
use Rattle.just_module_contents.specs.Recipes.{recipe_at}
use Rattle.just_module_recipes.specs.Rows.{keys_at}
use Rattle.just_paths.specs.declared.modulepath.Modulepath.{Modulepath}
use Rattle.just_recipe.specs.declared.dependency.UnresolvedDependency.{UnresolvedDependency}
use Rattle.just_recipe.specs.declared.recipe.Recipe.{Recipe}
use Rattle.std.specs.BTreeSet.{BTreeSet}

-- what is told of one recipe is told of one that nothing disables
pub data OfUndisabled (tells : Recipe UnresolvedDependency → Cause → Type 0) (recipes : List (Recipe UnresolvedDependency)) (sets : List (BTreeSet Modulepath)) : Cause → Type 0 where
  of_one : {c : Cause} (i : ℕ) → i < length recipes → keys_at sets i ≡ [] → tells (recipe_at recipes i) c → OfUndisabled tells recipes sets c
