-- What private functions say beside `Defaults.antt`.
use Rattle.std.specs.Prelude.{◌≡◌, ◌≢◌, ◌⊎◌, ℕ, ◌<◌, true, false, List, Option, None, Some}
use Rattle.just_recipe.specs.declared.dependency.UnresolvedDependency.{UnresolvedDependency}
use Rattle.just_recipe.specs.declared.recipe.Recipe.{Recipe}
use Rattle.just_module_contents.specs.Recipes.{recipe_at}
use Rattle.just_module_contents.specs.Defaults.{IsBefore, is_marked}

-- the first n recipes have it at a place and nowhere else, if there is one
abbrev pub IsMarkedPlace : List (Recipe UnresolvedDependency) → ℕ → Option ℕ → Type 0
IsMarkedPlace recipes n None = (k : ℕ) → k < n → is_marked (recipe_at recipes k) ≡ false
IsMarkedPlace recipes n (Some place) = (place < n) × (is_marked (recipe_at recipes place) ≡ true) × ((k : ℕ) → k < n → k ≢ place → is_marked (recipe_at recipes k) ≡ false)

-- of two recipes by their places, or of one, the default
abbrev pub IsBetter : List (Recipe UnresolvedDependency) → Option ℕ → ℕ → ℕ → Type 0
IsBetter own None place result = result ≡ place
IsBetter own (Some best) place result = ((result ≡ best) ⊎ (result ≡ place)) × IsBefore (recipe_at own result) (recipe_at own best) × IsBefore (recipe_at own result) (recipe_at own place)
