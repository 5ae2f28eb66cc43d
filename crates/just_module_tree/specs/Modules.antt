-- The modules of a compilation, as data.
use Rattle.std.specs.Prelude.{◌≡◌, Bool, List, [], ◌∷◌, map, flat_map, Option, None, Some}
use Rattle.std.specs.List.{Contains}
use Rattle.just_graph.specs.Levels.{AreLevels}
use Rattle.just_parts.specs.Asts.{AstKey, same_ast_key}
use Rattle.just_names.specs.Texts.{Text}
use Rattle.just_paths.specs.declared.modulepath.Modulepath.{Modulepath}
use Rattle.just_parts.specs.Items.{Ast, Item}
use Rattle.just_ast_expressions.specs.declared.string_literal.StringLiteral.{StringLiteral}
use Rattle.just_names.specs.declared.name.Name.{Name}
use Rattle.just_module_contents.specs.Contents.{Contents}
use Rattle.just_module_contents.specs.Named.{alias_by, function_by, naming_by, set_by, unexported_by, variable_by}
use Rattle.just_module_contents.specs.Recipes.{recipes_said}
use Rattle.just_module_headers.specs.Reading.{Reading, Submodule, imports_of, submodules_of}
use Rattle.just_module_contents.specs.Labels.{doc_by}
use Rattle.just_module_contents.specs.declared.labels.Label.{Label}

-- a label whose doc is a text, with nothing to evaluate
abbrev pub label : Option Name → Option Text → List StringLiteral → Bool → Label
label name doc groups private = record { name = name; doc = doc; doc_expression = None; groups = groups; private = private }

-- The path and the own file of a module, and its label.
pub record Heading : Type 0 where
  pub key : AstKey
  pub label : Label

abbrev pub heading : AstKey → Label → Heading
heading key label = record { key = key; label = label }

-- A module: its files in join order, what each says, and the modules that these declare.
pub record Module : Type 0 where
  pub heading : Heading
  pub files : List AstKey
  pub asts : List Ast
  pub modules : List Submodule

abbrev pub heading_of : Submodule → Heading
heading_of s = heading s.key s.label

-- the headings of the modules in a module
abbrev pub headings_in : Module → List Heading
headings_in m = map heading_of m.modules

-- the items of files, file after file
abbrev pub items_of : List Ast → List Item
items_of = flat_map (λ (ast : Ast). ast.items)

-- the path of a module
abbrev pub path_of : Module → Modulepath
path_of m = m.heading.key.0

-- what the rules read of it
abbrev pub contents_of : Module → Contents
contents_of m = record {
  recipes = recipes_said (items_of m.asts);
  functions = flat_map function_by (items_of m.asts);
  variables = flat_map variable_by (items_of m.asts);
  aliases = flat_map alias_by (items_of m.asts);
  modules = map (λ (s : Submodule). s.name) m.modules;
  named = flat_map naming_by (items_of m.asts);
  docs = flat_map doc_by (items_of m.asts);
  unexports = flat_map unexported_by (items_of m.asts);
  sets = flat_map set_by (items_of m.asts);
  lists = flat_map (λ (ast : Ast). ast.list_features) m.asts;
}

-- the module of a heading
pub record IsModule (R : Reading) (h : Heading) (m : Module) : Type 0 where
  pub heading : m.heading ≡ h
  pub files : AreLevels same_ast_key (imports_of R) h.key m.files
  pub asts : map Some m.asts ≡ map R m.files
  pub modules : m.modules ≡ flat_map (submodules_of R) m.files

-- Modules, each with those in it, in the order of their declarations: none, or one, those in it, and those after it.
pub data Forest : Type 0 where
  Empty : Forest
  Tree : Module → Forest → Forest → Forest

-- the modules of headings, and those in them
pub data AreModules (R : Reading) : List Heading → Forest → Type 0 where
  no_module : AreModules R [] Empty
  a_module : {h : Heading} {hs : List Heading} {m : Module} {inside after : Forest} → IsModule R h m → AreModules R (headings_in m) inside → AreModules R hs after
      → AreModules R (h ∷ hs) (Tree m inside after)

-- a module of a forest, and those in it
pub data HasModule : Forest → Module → Forest → Type 0 where
  first : {m : Module} {inside after : Forest} → HasModule (Tree m inside after) m inside
  in_it : {m n : Module} {inside after below : Forest} → HasModule inside n below → HasModule (Tree m inside after) n below
  after_it : {m n : Module} {inside after below : Forest} → HasModule after n below → HasModule (Tree m inside after) n below

-- the headings of the modules that are reached from one
pub data IsHeading (R : Reading) (root : Heading) : Heading → Type 0 where
  of_root : IsHeading R root root
  of_module : {h : Heading} {m : Module} {s : Submodule} → IsHeading R root h → IsModule R h m → Contains m.modules s → IsHeading R root (heading_of s)
