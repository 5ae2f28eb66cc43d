-- Modules whose recipes are among those that are held, each under its name.
use Rattle.std.specs.Prelude.{◌≡◌, ℕ, List, [], ◌∷◌, ◌++◌, Option, Some, None, IsSome}
use Rattle.std.specs.List.{All, Contains}
use Rattle.just_ast_definitions.specs.declared.alias.Alias.{Alias}
use Rattle.just_table.specs.Entries.{find}
use Rattle.just_names.specs.Texts.{Text}
use Rattle.just_names.specs.Token.{lexeme}
use Rattle.just_names.specs.declared.number.Number.{Number}
use Rattle.just_paths.specs.declared.modulepath.Modulepath.{Modulepath}
use Rattle.just_recipe.specs.declared.dependency.Dependency.{Dependency}
use Rattle.just_recipe.specs.declared.recipe.Recipe.{Recipe}
use Rattle.just_justfile.specs.Module.{module_name}
use Rattle.just_justfile.specs.Walks.{AreModulesOrdered, NamesRise, in_order}
use Rattle.just_justfile.specs.declared.justfile.Justfile.{Justfile, out-Justfile}
use Rattle.just_justfile.specs.declared.justfile.RecipeKey.{RecipeKey}
use Rattle.just_recipe.specs.Recipes.{find_number, IsResolved}

-- the recipes that are held
abbrev pub HeldRecipes : Type 0
HeldRecipes = List (Recipe Dependency)

-- the text of a recipe's name
abbrev pub resolved_name : Recipe Dependency → Text
resolved_name r = lexeme r.name.token

-- the recipe is held, under its number
abbrev pub IsHeld : HeldRecipes → Recipe Dependency → Type 0
IsHeld recipes recipe = find_number recipes recipe.number.0 ≡ Some recipe

-- the recipe of a name: the held one that the module's table names
abbrev pub recipe_of_key : List (Recipe Dependency) → Option RecipeKey → Option (Recipe Dependency)
recipe_of_key recipes None = None
recipe_of_key recipes (Some key) = find_number recipes key.number.0

abbrev pub recipe_named : Justfile → List (Recipe Dependency) → List ℕ → Option (Recipe Dependency)
recipe_named justfile recipes name = recipe_of_key recipes (find name (out-Justfile justfile).recipes)

-- the recipe for which an alias of a name stands
abbrev pub recipe_of_alias : List (Recipe Dependency) → Option (Alias Number) → Option (Recipe Dependency)
recipe_of_alias recipes None = None
recipe_of_alias recipes (Some alias) = find_number recipes alias.target.0

abbrev pub recipe_aliased : Justfile → List (Recipe Dependency) → List ℕ → Option (Recipe Dependency)
recipe_aliased justfile recipes name = recipe_of_alias recipes (find name (out-Justfile justfile).aliases.recipes)

-- the recipe of a name: the module's own, or else that for which an alias stands
abbrev pub own_or : Option (Recipe Dependency) → Option (Recipe Dependency) → Option (Recipe Dependency)
own_or None other = other
own_or (Some recipe) other = Some recipe

abbrev pub recipe_called : Justfile → List (Recipe Dependency) → List ℕ → Option (Recipe Dependency)
recipe_called justfile recipes name = own_or (recipe_named justfile recipes name) (recipe_aliased justfile recipes name)

abbrev pub recipe_of_number : List (Recipe Dependency) → Option Number → Option (Recipe Dependency)
recipe_of_number recipes None = None
recipe_of_number recipes (Some number) = find_number recipes number.0

-- the recipe that is run by default
abbrev pub default_recipe : Justfile → List (Recipe Dependency) → Option (Recipe Dependency)
default_recipe justfile recipes = recipe_of_number recipes (out-Justfile justfile).default

-- the path that leads one name on
abbrev pub path_on : Modulepath → Text → Modulepath
path_on path name = record { components = path.components ++ name ∷ []; spaced = path.spaced }

-- The recipe is that of a name in the module: it has this name, its module path is the module's path, and its own path leads one name on.
pub record IsRecipeOf (justfile : Justfile) (name : Text) (recipe : Recipe Dependency) : Type 0 where
  pub named : lexeme recipe.name.token ≡ name
  pub module_path : recipe.module_path ≡ Some (out-Justfile justfile).module_path
  pub recipe_path : recipe.recipe_path ≡ Some (path_on (out-Justfile justfile).module_path name)

-- the module's table names a held recipe, which is that of the name in the module
abbrev pub HasRecipe : Justfile → List (Recipe Dependency) → Text → Type 0
HasRecipe justfile recipes name = (r : Recipe Dependency) × (recipe_named justfile recipes name ≡ Some r) × IsRecipeOf justfile name r

-- A module stands in another one: it is that one, or stands in a module of it.
pub data StandsIn : Justfile → Justfile → Type 0 where
  itself : {root : Justfile} → StandsIn root root
  inside : {root inner j : Justfile} → Contains (out-Justfile root).modules inner → StandsIn inner j → StandsIn root j

-- the path is that of a module that stands in one
abbrev pub IsPathIn : Justfile → Modulepath → Type 0
IsPathIn justfile path = (inner : Justfile) × StandsIn justfile inner × (path ≡ (out-Justfile inner).module_path)

-- Each name in the module's table of recipes leads to a held recipe, which is that of the name in the module; its default is that of a recipe that is held, and so is what an alias of a recipe stands for; an alias of a module has the path of a module that stands in it; and the held recipes are resolved.
pub record IsClosedModule (justfile : Justfile) (recipes : List (Recipe Dependency)) : Type 0 where
  pub named : (name : Text) → IsSome (find name (out-Justfile justfile).recipes) → HasRecipe justfile recipes name
  pub default : IsSome (out-Justfile justfile).default → IsSome (default_recipe justfile recipes)
  pub aliases : (name : Text) → IsSome (find name (out-Justfile justfile).aliases.recipes) → IsSome (recipe_aliased justfile recipes name)
  pub modules : (name : Text) (alias : Alias Modulepath) → find name (out-Justfile justfile).aliases.modules ≡ Some alias → IsPathIn justfile alias.target
  pub resolved : All IsResolved recipes

-- The modules in a module: their names rise in byte order, so that each stands once, and the path of each leads from the module's one name on.
pub record HaveInnerNames (justfile : Justfile) : Type 0 where
  pub names : NamesRise (out-Justfile justfile).modules
  pub paths : (inner : Justfile) → Contains (out-Justfile justfile).modules inner → (out-Justfile inner).module_path ≡ path_on (out-Justfile justfile).module_path (module_name inner)

-- The module and all modules below it are closed, and those in each have names.
pub data AreClosed (recipes : List (Recipe Dependency)) : Justfile → Type 0 where
  all_closed : {justfile : Justfile} → IsClosedModule justfile recipes → HaveInnerNames justfile
      → ((inner : Justfile) → Contains (out-Justfile justfile).modules inner → AreClosed recipes inner) → AreClosed recipes justfile

-- the module itself
pub is_closed : {recipes : List (Recipe Dependency)} {justfile : Justfile} → AreClosed recipes justfile → IsClosedModule justfile recipes
is_closed (all_closed closed names below) = closed

-- the names of those in it
pub have_names : {recipes : List (Recipe Dependency)} {justfile : Justfile} → AreClosed recipes justfile → HaveInnerNames justfile
have_names (all_closed closed names below) = names

-- each of its modules, with those below that
pub inner_closed : {recipes : List (Recipe Dependency)} {justfile : Justfile} → AreClosed recipes justfile →
    (inner : Justfile) → Contains (out-Justfile justfile).modules inner → AreClosed recipes inner
inner_closed (all_closed closed names below) = below

-- so the names of those in it rise in byte order, in each module
pub is_ordered : {recipes : List (Recipe Dependency)} {justfile : Justfile} → AreClosed recipes justfile → AreModulesOrdered justfile
is_ordered (all_closed closed names below) = in_order names.names (λ inner c. is_ordered (below inner c))

-- the recipe is that of a module that stands in the root
abbrev pub IsPlaced : Justfile → Recipe Dependency → Type 0
IsPlaced root r = (j : Justfile) × StandsIn root j × (r.module_path ≡ Some (out-Justfile j).module_path)

-- The root with the held recipes: it and all modules below it are closed, and each held recipe is one of a module that stands in it.
pub record IsRooted (root : Justfile) (recipes : List (Recipe Dependency)) : Type 0 where
  pub closed : AreClosed recipes root
  pub placed : All (IsPlaced root) recipes
