-- What the files of a compilation say, each under the path of its module and its own.
use Rattle.std.specs.Prelude.{Bool, List, [], ◌∷◌, map, filter, flat_map, Option, None, Some}
use Rattle.std.specs.Option.{option_map}
use Rattle.just_parts.specs.Asts.{AstKey}
use Rattle.just_parts.specs.Bare.{ast_of_items, bare_item}
use Rattle.just_parts.specs.Located.{located_item}
use Rattle.just_names.specs.Name.{text_of_name}
use Rattle.just_parts.specs.Items.{Ast, Item}
use Rattle.just_ast_items.specs.declared.item.Item.TheVariants as item
use Rattle.just_names.specs.declared.name.Name.{Name}
use Rattle.just_paths.specs.declared.modulepath.Modulepath.{Modulepath}
use Rattle.just_ast_expressions.specs.declared.list_use.ListUse.{ListUse}
use Rattle.just_module_contents.specs.Labels.{label_said}
use Rattle.just_module_contents.specs.declared.labels.Label.{Label}
use Rattle.just_module_contents.specs.Resolved.{path_to}

abbrev pub Reading : Type 0
Reading = AstKey → Option Ast

-- the items that count
abbrev pub enabled_items : (Item → Bool) → List Item → List Item
enabled_items enabled items = filter (λ i. enabled (bare_item i)) items

-- items, and where lists are needed
abbrev pub ast_of_both : List Item → List ListUse → Ast
ast_of_both items lists = record (ast_of_items items) { list_features = lists }

-- the enabled items alone, without numbers
abbrev pub located_ast : (Item → Bool) → Ast → Ast
located_ast enabled ast = ast_of_both (map located_item (enabled_items enabled ast.items)) ast.list_features

-- what is read in asts
abbrev pub reading_of : (Item → Bool) → (AstKey → Option Ast) → Reading
reading_of enabled asts k = option_map (located_ast enabled) (asts k)

abbrev pub items_in : Option Ast → List Item
items_in None = []
items_in (Some ast) = ast.items

-- A module that a file declares: its name, its label, and its path with that of its own file.
pub record Submodule : Type 0 where
  pub name : Name
  pub label : Label
  pub key : AstKey

-- the key of the file that an item of a module's file imports
abbrev pub imported : Modulepath → Item → List AstKey
imported path (item.Import relative (Some file) optional) = (path, file) ∷ []
imported path _ = []

-- the module that an item of a module's file declares
abbrev pub declared : Modulepath → Item → List Submodule
declared path (item.Module name relative (Some file) attributes doc optional) = record { name = name; label = label_said name attributes doc; key = (path_to path (text_of_name name), file) } ∷ []
declared path _ = []

-- what a file imports, and which modules it declares, in order
abbrev pub imports_of : Reading → AstKey → List AstKey
imports_of R k = flat_map (imported k.0) (items_in (R k))

abbrev pub submodules_of : Reading → AstKey → List Submodule
submodules_of R k = flat_map (declared k.0) (items_in (R k))
