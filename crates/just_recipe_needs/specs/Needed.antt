-- The variables that a recipe needs, by their numbers.
use Rattle.std.specs.Prelude.{◌≡◌, ◌↔◌, ◌<◌, ℕ, Bool, List, [], length, get_or}
use Rattle.std.specs.List.{Contains, IsDistinct}
use Rattle.just_ast_expressions.specs.declared.settings.Settings.{Settings}
use Rattle.just_module_contents.specs.RecipeNames.{written_scopes}
use Rattle.just_module_contents.specs.Recipes.{recipe_at}
use Rattle.just_names.specs.Texts.{Text}
use Rattle.just_names.specs.declared.number.Number.{Number}
use Rattle.just_parts.specs.Known.{Known}
use Rattle.just_parts.specs.Needs.{HaveNumbersApart, IsNumberIn, Needs, overridden_by, same_number}
use Rattle.just_parts.specs.Reading.{Reads}
use Rattle.just_parts.specs.Scopes.{Scoped}
use Rattle.just_parts.specs.Syntax.{SyntaxAnswers}
use Rattle.just_recipe.specs.declared.dependency.UnresolvedDependency.{UnresolvedDependency}
use Rattle.just_recipe.specs.declared.recipe.Recipe.{Recipe}

-- A variable that one of some expressions reads, each in its scope.
pub record IsReadInScopes (m : Known) (scopes : List Scoped) (name : Text) : Type 0 where
  pub from : Scoped
  pub there : Contains scopes from
  pub reads : Reads m from.hidden from.expression name

-- Each number once, and where numbers tell variables apart, those of what is needed from a start and no others.
pub record AreNumbersOf (m : Known) (overridden : Number → Bool) (start : Text → Type 0) (numbers : List Number) : Type 0 where
  pub once : IsDistinct same_number numbers
  pub needed : HaveNumbersApart m → (n : Number) → Contains numbers n ↔ IsNumberIn m (Needs m (overridden_by overridden m) start) n

-- so it is of what some expressions read, and whatever such a variable reads, unless it is overridden, and so on
abbrev pub HasReferences : Known → (Number → Bool) → List Scoped → List Number → Type 0
HasReferences m overridden scopes = AreNumbersOf m overridden (IsReadInScopes m scopes)

-- so it is of what a recipe reads under these settings
abbrev pub NeedsUnder : Known → (Number → Bool) → SyntaxAnswers → Settings → Recipe UnresolvedDependency → List Number → Type 0
NeedsUnder m overridden answers settings r = HasReferences m overridden (written_scopes answers settings r)

-- recipes and, for each, numbers that it may have as those of what it needs
pub record HaveReferences (Needs : Recipe UnresolvedDependency → List Number → Type 0) (recipes : List (Recipe UnresolvedDependency)) (needed : List (List Number)) : Type 0 where
  pub count : length needed ≡ length recipes
  pub each : (i : ℕ) → i < length recipes → Needs (recipe_at recipes i) (get_or needed i [])
