-- What listings show of a module, and in which order.
use Rattle.std.specs.Prelude.{◌≡◌, ℕ, Bool, true, false, not, ◌&&◌, ◌==◌, List, [], ◌∷◌, map, Option, None, Some}
use Rattle.std.specs.Borrow.{Bor}
use Rattle.std.specs.List.{filter, filter_map, list_any}
use Rattle.std.specs.Map.{values_of}
use Rattle.just_ast_definitions.specs.declared.alias.Alias.{Alias}
use Rattle.just_names.specs.Texts.{Text}
use Rattle.just_names.specs.Token.{lexeme}
use Rattle.just_names.specs.declared.name.Name.{Name}
use Rattle.just_names.specs.declared.number.Number.{Number}
use Rattle.just_paths.specs.declared.modulepath.Modulepath.{Modulepath}
use Rattle.just_recipe.specs.Recipes.{find_number}
use Rattle.just_recipe.specs.declared.dependency.Dependency.{Dependency}
use Rattle.just_recipe.specs.declared.recipe.Recipe.{Recipe}
use Rattle.just_recipe_run.specs.Calls.{is_public, says_private}
use Rattle.just_justfile.specs.Closed.{HeldRecipes}
use Rattle.just_justfile.specs.declared.justfile.Justfile.{Justfile, out-Justfile}
use Rattle.just_justfile.specs.declared.justfile.RecipeKey.{RecipeKey}
use Rattle.just_listings.specs.Order.{AreInAskedOrder, place_order}
use Rattle.just_listings.specs.declared.order.Place.{Place}

-- how many bytes stand before a name; none before one that is not there
abbrev pub offset_of : Option Name → ℕ
offset_of None = 0
offset_of (Some name) = name.token.offset

-- a module is public unless it is private
abbrev pub is_public_module : Justfile → Bool
is_public_module j = not (out-Justfile j).private

-- where a module is declared, without the imports
abbrev pub module_place : Justfile → Place
module_place j = record { imports = []; offset = offset_of (out-Justfile j).name }

-- the public modules of a module: in the order of their names, or unsorted by their places, where those of one place stay in that order
abbrev pub ArePublicModules : Bool → Justfile → List Justfile → Type 0
ArePublicModules unsorted j modules = AreInAskedOrder unsorted module_place place_order (filter is_public_module (out-Justfile j).modules) modules

-- the held recipes that these keys name
abbrev pub recipes_named : HeldRecipes → List RecipeKey → HeldRecipes
recipes_named recipes keys = filter_map (λ (key : RecipeKey). find_number recipes key.number.0) keys

-- the recipes of a module, in the order of their names
abbrev pub own_recipes : HeldRecipes → Justfile → HeldRecipes
own_recipes recipes j = recipes_named recipes (values_of (out-Justfile j).recipes)

-- where a recipe stands
abbrev pub recipe_place : Recipe Dependency → Place
recipe_place r = record { imports = r.import_offsets; offset = r.name.token.offset }

-- the public recipes of a module: in the order of their names, or unsorted by their places, where those of one place stay in that order
abbrev pub ArePublicRecipes : Bool → HeldRecipes → Justfile → HeldRecipes → Type 0
ArePublicRecipes unsorted recipes j found = AreInAskedOrder unsorted recipe_place place_order (filter is_public (own_recipes recipes j)) found

-- the text begins with `_`
abbrev pub is_low : Text → Bool
is_low [] = false
is_low (b ∷ rest) = b == 95

-- an alias is public unless its name or an attribute makes it private
abbrev pub is_public_alias : Alias Number → Bool
is_public_alias alias = not (is_low (lexeme alias.name.token)) && not (list_any says_private alias.attributes)

-- the public aliases of the recipes of a module, in the order of their names, each with the path of the module
abbrev pub aliases_shown : Justfile → List (Alias Number × Modulepath)
aliases_shown j = map {B = Alias Number × Modulepath} (λ alias. (alias, (out-Justfile j).module_path)) (filter is_public_alias (values_of (out-Justfile j).aliases.recipes))

-- an alias and a path that references lead to
abbrev pub alias_behind : Bor (Alias Number) × Bor Modulepath → Alias Number × Modulepath
alias_behind p = (p.0.now, p.1.now)
