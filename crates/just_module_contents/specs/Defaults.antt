-- The recipes that are run by default, and their rule.
use Rattle.std.specs.Prelude.{◌≡◌, ◌≢◌, ℕ, ◌<◌, ◌≤◌, Bool, true, false, List, length, Option, None, Some}
use Rattle.std.specs.Cmp.Lexicographic.{slice_cmp}
use Rattle.std.specs.List.{Contains, list_any}
use Rattle.std.specs.Option.{option_map}
use Rattle.std.specs.Ordering.{nat_cmp}
use Rattle.std.specs.declared.cmp.Ordering.TheVariants.{Less}
use Rattle.just_errors.specs.Causes.{Cause, Broken}
use Rattle.just_errors.specs.declared.compile_error.CompileErrorKind.TheVariants as kind
use Rattle.just_ast_definitions.specs.declared.attribute.Attribute.{Attribute}
use Rattle.just_ast_definitions.specs.declared.attribute.Attribute.TheVariants as attribute
use Rattle.just_ast_definitions.specs.declared.attribute.NamedAttribute.{NamedAttribute}
use Rattle.just_recipe.specs.declared.dependency.UnresolvedDependency.{UnresolvedDependency}
use Rattle.just_recipe.specs.declared.recipe.Recipe.{Recipe}
use Rattle.just_module_contents.specs.Recipes.{line_of, name_of_recipe, recipe_at, token_of}
use Rattle.just_module_contents.specs.Resolved.{number_at, unresolved_numbers}
use Rattle.just_names.specs.declared.number.Number.{Number}

-- the attribute says that it is run by default
abbrev pub says_default : {E : Type 0} → Attribute E → Bool
says_default attribute.Default = true
says_default _ = false

abbrev pub is_default : {E : Type 0} → NamedAttribute E → Bool
is_default named = says_default named.attribute

-- a recipe has that attribute
abbrev pub is_marked : Recipe UnresolvedDependency → Bool
is_marked recipe = list_any is_default recipe.attributes

-- none has it
abbrev pub NoneMarked : List (Recipe UnresolvedDependency) → Type 0
NoneMarked recipes = (k : ℕ) → k < length recipes → is_marked (recipe_at recipes k) ≡ false

-- b stands on a greater line than a, or on the same with a name that is no less
pub record IsLater (a b : Recipe UnresolvedDependency) : Type 0 where
  pub line : line_of a ≤ line_of b
  pub name : line_of a ≡ line_of b → slice_cmp nat_cmp (name_of_recipe b) (name_of_recipe a) ≢ Less

-- Two recipes have the attribute. It is told at the later one.
pub data BreaksDefaults (recipes : List (Recipe UnresolvedDependency)) : Cause → Type 0 where
  duplicate_default : (i j : ℕ) → i < length recipes → j < length recipes → i ≢ j → is_marked (recipe_at recipes i) ≡ true → is_marked (recipe_at recipes j) ≡ true
      → IsLater (recipe_at recipes i) (recipe_at recipes j) → BreaksDefaults recipes (Broken (token_of (recipe_at recipes j)) (kind.DuplicateDefault (name_of_recipe (recipe_at recipes j))))

-- a stands on a smaller line than b, or on the same with a name that is no less
pub record IsBefore (a b : Recipe UnresolvedDependency) : Type 0 where
  pub line : line_of a ≤ line_of b
  pub name : line_of a ≡ line_of b → slice_cmp nat_cmp (name_of_recipe a) (name_of_recipe b) ≢ Less

-- Of the first n recipes of the own file those that are resolved: none stands on a smaller line than the one at a place, and none on the same line has a greater name.
pub record IsDefault (resolved : List ℕ) (own : List (Recipe UnresolvedDependency)) (n place : ℕ) : Type 0 where
  pub there : place < n
  pub is_resolved : Contains resolved (number_at own place)
  pub least : (k : ℕ) → k < n → Contains resolved (number_at own k) → IsBefore (recipe_at own place) (recipe_at own k)

-- the place of the default; none where no recipe of the own file is resolved
abbrev pub IsDefaultPlace : List ℕ → List (Recipe UnresolvedDependency) → ℕ → Option ℕ → Type 0
IsDefaultPlace resolved own n None = (k : ℕ) → k < n → Contains resolved (number_at own k) → ⊥
IsDefaultPlace resolved own n (Some place) = IsDefault resolved own n place

-- the default, by its number
abbrev pub IsDefaultOf : List ℕ → List (Recipe UnresolvedDependency) → Option Number → Type 0
IsDefaultOf resolved own None = IsDefaultPlace resolved own (length own) None
IsDefaultOf resolved own (Some number) = (place : ℕ) × IsDefault resolved own (length own) place × (number_at own place ≡ number.0)

-- each of these recipes that has the attribute `default` has this number
abbrev pub IsMarked : List (Recipe UnresolvedDependency) → Option Number → Type 0
IsMarked recipes default = (k : ℕ) → k < length recipes → is_marked (recipe_at recipes k) ≡ true → option_map (λ (n : Number). n.0) default ≡ Some (number_at recipes k)

-- Which of these recipes is run by default: the one with the attribute `default`, or where none has it one of the own file, of those with these numbers.
pub record IsDefaultBy (recipes : List (Recipe UnresolvedDependency)) (resolved : List ℕ) (own : List (Recipe UnresolvedDependency)) (default : Option Number) : Type 0 where
  pub marked : IsMarked recipes default
  pub unmarked : NoneMarked recipes → IsDefaultOf resolved own default

-- the same, of those that are resolved
abbrev pub IsDefaultAmong : List (Recipe UnresolvedDependency) → List (Recipe UnresolvedDependency) → Option Number → Type 0
IsDefaultAmong recipes = IsDefaultBy recipes (unresolved_numbers recipes)
