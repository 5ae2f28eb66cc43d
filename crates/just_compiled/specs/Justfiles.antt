-- What modules are compiled to.
use Rattle.std.specs.Prelude.{◌≡◌, ◌≢◌, ◌↔◌, ℕ, ◌<◌, Bool, List, [], ◌∷◌, map, flat_map, length, Option, Some}
use Rattle.just_parts.specs.Asts.{AstKey}
use Rattle.just_names.specs.Texts.{Text}
use Rattle.just_names.specs.declared.number.Number.{Number}
use Rattle.just_recipe.specs.declared.dependency.Dependency.{Dependency}
use Rattle.just_parts.specs.Items.{Ast, Item}
use Rattle.just_parts.specs.Layers.{Given, layers_at}
use Rattle.just_recipe.specs.declared.dependency.UnresolvedDependency.{UnresolvedDependency}
use Rattle.just_recipe.specs.declared.recipe.Recipe.{Recipe}
use Rattle.std.specs.BTreeSet.{BTreeSet}
use Rattle.std.specs.List.{Contains}
use Rattle.just_ast_definitions.specs.declared.alias.Alias.{Alias}
use Rattle.just_justfile.specs.Walks.{only, path_along}
use Rattle.just_justfile.specs.declared.aliases.Aliases.{Aliases}
use Rattle.just_module_aliases.specs.Aliased.{no_aliases, with_meaning}
use Rattle.just_module_aliases.specs.declared.aliases.AliasMeaning.{AliasMeaning}
use Rattle.just_module_aliases.specs.declared.aliases.AliasMeaning.TheVariants as meaning
use Rattle.just_paths.specs.declared.modulepath.Modulepath.{Modulepath}
use Rattle.just_justfile.specs.declared.justfile.Justfile.{Justfile, out-Justfile}
use Rattle.just_compiled.specs.Analysis.{HasDefault, IsOf, completion_of}
use Rattle.just_compiled.specs.Labelled.{by_name, label_in, notes_in}
use Rattle.just_compiled.specs.Evaluated.{IsEvaluatedTo}
use Rattle.just_ast_expressions.specs.declared.expression.Expression.{Expression}
use Rattle.just_module_contents.specs.Constants.{Evaluated, value_among}
use Rattle.just_module_contents.specs.Labels.{doc_by}
use Rattle.just_module_contents.specs.Notes.{absent_by, features_by, notes_of, warnings_by}
use Rattle.just_module_contents.specs.declared.notes.Notes.{Notes}
use Rattle.just_module_tree.specs.Modules.{Module, Forest, Empty, Tree, contents_of, path_of}
use Rattle.just_compiled.specs.Variables.{HasTables, HasVariables}
use Rattle.just_module_contents.specs.Contents.{Contents}
use Rattle.just_module_contents.specs.Kept.{kept_recipes}
use Rattle.just_module_contents.specs.Named.{alias_by, function_by, lists_by, name_by, naming_by, set_by, unexported_by, variable_by}
use Rattle.just_module_contents.specs.Said.{said_in}
use Rattle.just_module_contents.specs.Recipes.{name_of_recipe, recipe_at, recipes_of}
use Rattle.just_module_headers.specs.Reading.{Submodule, items_in}
use Rattle.just_module_contents.specs.Standing.{AreStanding}
use Rattle.just_justfile.specs.Module.{module_name}
use Rattle.just_module_recipes.specs.Linked.{AreLinked, HasDisabled}
use Rattle.just_module_tree.specs.Standing.{DisabledBy, InModule, Missing, Nowhere, StandsInTree, follow, leads, name_in}
use Rattle.just_names.specs.Index.{AreDifferent}
use Rattle.just_names.specs.Name.{text_of_name, texts_of_path}
use Rattle.just_names.specs.declared.name.Namepath.{Namepath}

-- the recipes that files say, file after file
abbrev pub recipes_in_files : (Item → Bool) → (AstKey → Option Ast) → List AstKey → List (Recipe UnresolvedDependency)
recipes_in_files enabled asts files = flat_map (λ k. recipes_of enabled (items_in (asts k))) files

-- what the rules read of files
abbrev pub contents_read : (Item → Bool) → (AstKey → Option Ast) → List AstKey → Contents
contents_read enabled asts files = record {
  recipes = recipes_in_files enabled asts files;
  functions = flat_map (λ k. said_in function_by enabled (asts k)) files;
  variables = flat_map (λ k. said_in variable_by enabled (asts k)) files;
  aliases = flat_map (λ k. said_in alias_by enabled (asts k)) files;
  modules = flat_map (λ k. said_in name_by enabled (asts k)) files;
  named = flat_map (λ k. said_in naming_by enabled (asts k)) files;
  docs = flat_map (λ k. said_in doc_by enabled (asts k)) files;
  unexports = flat_map (λ k. said_in unexported_by enabled (asts k)) files;
  sets = flat_map (λ k. said_in set_by enabled (asts k)) files;
  lists = flat_map (λ k. lists_by (asts k)) files;
}

-- what is noted of files, file after file
abbrev pub notes_said : (Item → Bool) → (AstKey → Option Ast) → List AstKey → Notes
notes_said enabled asts files =
    notes_of (flat_map (λ k. said_in absent_by enabled (asts k)) files) (flat_map (λ k. features_by (asts k)) files) (flat_map (λ k. warnings_by (asts k)) files)

-- What a module adds to a compilation: its recipes, and the values that override its variables, each with the number of its variable.
pub record Made : Type 0 where
  pub recipes : List (Recipe Dependency)
  pub overridden : List (Number × Text)

-- what modules that are compiled add, each under its key
abbrev pub Built : Type 0
Built = AstKey × Made

-- all that modules add, one after another
abbrev pub recipes_of_all : List Built → List (Recipe Dependency)
recipes_of_all = flat_map (λ (b : Built). b.1.recipes)

abbrev pub overridden_of_all : List Built → List (Number × Text)
overridden_of_all = flat_map (λ (b : Built). b.1.overridden)

-- the recipes of a module that are kept, as its files say them
abbrev pub kept_by : Given → (AstKey → Option Ast) → Module → List (Recipe UnresolvedDependency)
kept_by given asts m = kept_recipes (recipes_in_files given.syntax.enabled asts m.files)

-- the value of an expression among the constants of a module, as its files say it
abbrev pub value_by : Given → (AstKey → Option Ast) → Module → Evaluated → Expression → Option (List Text)
value_by given asts m it = value_among given.evaluator (contents_read given.syntax.enabled asts m.files) it.constants

-- the number of the kept recipe that a path leads to from a module
pub record HasNumberIn (given : Given) (asts : AstKey → Option Ast) (m : Module) (inside : Forest) (path : Namepath) (number : Number) : Type 0 where
  pub to : Module
  pub below : Forest
  pub leads_in : leads m inside path ≡ InModule to below
  pub place : ℕ
  pub there : place < length (kept_by given asts to)
  pub named : name_of_recipe (recipe_at (kept_by given asts to) place) ≡ text_of_name path.last
  pub number_is : (recipe_at (kept_by given asts to) place).number ≡ number

-- What a path means from a module as the target of an alias: the module to which it leads; what is disabled where it leads to or through one without a file; or where it leads to no module the kept recipe to which it leads, by its number where that stands, and else with exactly the paths that disable it.
pub data MeansIn (given : Given) (asts : AstKey → Option Ast) (m : Module) (inside : Forest) (path : Namepath) : AliasMeaning → Type 0 where
  a_module : (n : Module) (below : Forest) → follow (texts_of_path path) m inside ≡ InModule n below → MeansIn given asts m inside path (meaning.Module (path_of n))
  missing : (names : List Text) → follow (texts_of_path path) m inside ≡ Missing names → MeansIn given asts m inside path (meaning.Disabled (only (path_along names)))
  a_recipe : {number : Number} (h : HasNumberIn given asts m inside path number) → follow (texts_of_path path) m inside ≡ Nowhere → StandsInTree h.to h.below (text_of_name path.last) → MeansIn given asts m inside path (meaning.Recipe number)
  a_disabled : {set : BTreeSet Modulepath} (n : Module) (below : Forest) → follow (texts_of_path path) m inside ≡ Nowhere → leads m inside path ≡ InModule n below → set.keys ≢ []
      → ((by : Modulepath) → Contains set.keys by ↔ DisabledBy n below (text_of_name path.last) by) → MeansIn given asts m inside path (meaning.Disabled set)

-- Tables with aliases behind those before, each in the table of its meaning under its name.
pub data AddAliases (Means : Namepath → AliasMeaning → Type 0) : Aliases → List (Alias Namepath) → Aliases → Type 0 where
  no_more : {tables : Aliases} → AddAliases Means tables [] tables
  one_more : {before after : Aliases} {alias : Alias Namepath} {aliases : List (Alias Namepath)} {it : AliasMeaning} → Means alias.target it → AddAliases Means (with_meaning before alias it) aliases after → AddAliases Means before (alias ∷ aliases) after

-- the tables of aliases and of nothing else
abbrev pub AreAliased : (Namepath → AliasMeaning → Type 0) → List (Alias Namepath) → Aliases → Type 0
AreAliased Means = AddAliases Means no_aliases

-- What a module is compiled to, of all recipes: its recipes that nothing disables, linked, the others with what disables them, what is evaluated of it, and its justfile, with the modules in it, which have the labels of their declarations.
pub record IsCompiled (given : Given) (asts : AstKey → Option Ast) (loaded : List Text) (all : List (Recipe Dependency)) (m : Module) (inside : Forest) (inner : List Justfile) (made : Made) (j : Justfile) : Type 0 where
  pub own : Ast
  pub own_said : asts m.heading.key ≡ Some own
  pub own_there : Contains m.files m.heading.key
  pub name : module_name j ≡ name_in m
  pub path : (out-Justfile j).module_path ≡ path_of m
  pub standing : List (Recipe UnresolvedDependency)
  pub stand : AreStanding (StandsInTree m inside) (kept_by given asts m) standing
  pub disabled : HasDisabled (DisabledBy m inside) (kept_by given asts m) (out-Justfile j).disabled_recipes
  pub evaluated : IsEvaluatedTo (layers_at given (path_of m)) (contents_read given.syntax.enabled asts m.files) (map (λ (s : Submodule). s.label) m.modules) (map label_in inner) made.overridden j
  pub linked : AreLinked (StandsInTree m inside) (HasNumberIn given asts m inside) (completion_of (value_by given asts m evaluated.it) given.syntax j) (out-Justfile j).settings.lists all (kept_by given asts m) (path_of m) made.recipes
  pub variables : HasVariables given.syntax (contents_read given.syntax.enabled asts m.files) j
  pub tables : HasTables j
  pub default : HasDefault standing (recipes_of given.syntax.enabled own.items) j
  pub fields : IsOf (contents_read given.syntax.enabled asts m.files) standing own loaded m.heading.key.1 j
  pub notes : notes_in j ≡ notes_said given.syntax.enabled asts m.files
  pub modules : (out-Justfile j).modules ≡ by_name inner
  pub different : AreDifferent (map module_name inner)

-- The modules of a forest are compiled to justfiles, one by one, each with its aliases.
pub data AreCompiled (given : Given) (asts : AstKey → Option Ast) (loaded : List Text) (built : List Built) : Forest → List Justfile → Type 0 where
  none : AreCompiled given asts loaded built Empty []
  one : {m : Module} {inside after : Forest} {inner js : List Justfile} {j : Justfile} (made : Made) → Contains built (m.heading.key, made) → AreCompiled given asts loaded built inside inner
      → IsCompiled given asts loaded (recipes_of_all built) m inside inner made j → AreAliased (MeansIn given asts m inside) (contents_of m).aliases (out-Justfile j).aliases → AreCompiled given asts loaded built after js → AreCompiled given asts loaded built (Tree m inside after) (j ∷ js)
