-- What files at places say: recipes, functions, variables, aliases, names and settings, and where they need lists.
use Rattle.std.specs.Prelude.{ℕ, Bool, List, [], ◌∷◌, flat_map, slice_get, Option, None, Some}
use Rattle.just_parts.specs.Items.{Ast, Item}
use Rattle.just_ast_items.specs.declared.item.Item.TheVariants as item
use Rattle.just_recipe.specs.declared.dependency.UnresolvedDependency.{UnresolvedDependency}
use Rattle.just_names.specs.declared.name.Name.{Name}
use Rattle.just_names.specs.declared.name.Namepath.{Namepath}
use Rattle.just_ast_definitions.specs.declared.alias.Alias.{Alias}
use Rattle.just_ast_definitions.specs.declared.assignment.Assignment.{Assignment}
use Rattle.just_ast_definitions.specs.declared.function_definition.FunctionDefinition.{FunctionDefinition}
use Rattle.just_ast_expressions.specs.declared.list_use.ListUse.{ListUse}
use Rattle.just_ast_definitions.specs.declared.setting.Set.{Set}
use Rattle.just_recipe.specs.declared.recipe.Recipe.{Recipe}
use Rattle.just_module_contents.specs.Labels.{doc_by}
use Rattle.just_module_contents.specs.Said.{said_in}
use Rattle.just_module_contents.specs.Recipes.{recipes_of}
use Rattle.just_module_contents.specs.Contents.{Contents}
use Rattle.just_module_contents.specs.declared.definitions.Naming.{Naming}
use Rattle.just_module_contents.specs.declared.definitions.Naming.TheVariants as naming

-- the name of the module that an item declares
abbrev pub name_by : Item → List Name
name_by (item.Module name relative (Some file) attributes doc optional) = name ∷ []
name_by _ = []

-- the alias that an item defines
abbrev pub alias_by : Item → List (Alias Namepath)
alias_by (item.Alias alias) = alias ∷ []
alias_by _ = []

-- what an item defines under a name beside recipes: an alias, or a module that has a file
abbrev pub naming_by : Item → List Naming
naming_by (item.Alias alias) = naming.Alias alias.name ∷ []
naming_by (item.Module name relative (Some file) attributes doc optional) = naming.Module name ∷ []
naming_by _ = []

-- the name of the variable that an item unexports
abbrev pub unexported_by : Item → List Name
unexported_by (item.Unexport name) = name ∷ []
unexported_by _ = []

-- the function that an item defines
abbrev pub function_by : Item → List FunctionDefinition
function_by (item.Function f) = f ∷ []
function_by _ = []

-- the variable that an item assigns
abbrev pub variable_by : Item → List Assignment
variable_by (item.Assignment a) = a ∷ []
variable_by _ = []

-- what an item sets
abbrev pub set_by : Item → List Set
set_by (item.Setting s) = s ∷ []
set_by _ = []

-- what files say, file after file
abbrev pub said_from : {A : Type 0} → (Item → List A) → (Item → Bool) → List Ast → List ℕ → List A
said_from by enabled asts files = flat_map (λ p. said_in by enabled (slice_get asts p)) files

-- where a file needs lists
abbrev pub lists_by : Option Ast → List ListUse
lists_by None = []
lists_by (Some ast) = ast.list_features

-- where files need them, file after file
abbrev pub lists_from : List Ast → List ℕ → List ListUse
lists_from asts files = flat_map (λ p. lists_by (slice_get asts p)) files

abbrev pub recipes_by : (Item → Bool) → Option Ast → List (Recipe UnresolvedDependency)
recipes_by enabled None = []
recipes_by enabled (Some ast) = recipes_of enabled ast.items

-- the recipes that files say, file after file
abbrev pub recipes_from : (Item → Bool) → List Ast → List ℕ → List (Recipe UnresolvedDependency)
recipes_from enabled asts files = flat_map (λ p. recipes_by enabled (slice_get asts p)) files

-- what files say of a module
abbrev pub contents_from : (Item → Bool) → List Ast → List ℕ → Contents
contents_from enabled asts files = record {
  recipes = recipes_from enabled asts files;
  functions = said_from function_by enabled asts files;
  variables = said_from variable_by enabled asts files;
  aliases = said_from alias_by enabled asts files;
  modules = said_from name_by enabled asts files;
  named = said_from naming_by enabled asts files;
  docs = said_from doc_by enabled asts files;
  unexports = said_from unexported_by enabled asts files;
  sets = said_from set_by enabled asts files;
  lists = lists_from asts files;
}
