-- What the aliases of a module mean, over what the module has and the compiled modules in it.
use Rattle.std.specs.Prelude.{◌≢◌, List, [], ◌∷◌, flat_map, Option, None, Some}
use Rattle.just_ast_definitions.specs.declared.alias.Alias.{Alias}
use Rattle.just_errors.specs.Causes.{Cause}
use Rattle.just_justfile.specs.Walks.{resolved_module, resolved_recipe}
use Rattle.just_justfile.specs.declared.aliases.Aliases.{Aliases}
use Rattle.just_justfile.specs.declared.disabled.Disabled.{Disabled}
use Rattle.just_justfile.specs.declared.justfile.Justfile.{Justfile, out-Justfile}
use Rattle.just_justfile.specs.declared.justfile.RecipeKey.{RecipeKey}
use Rattle.just_justfile.specs.declared.resolution.Resolution.{Resolution}
use Rattle.just_justfile.specs.declared.resolution.Resolution.TheVariants as resolution
use Rattle.just_module_contents.specs.Rules.{BreaksAliasTargets as BreaksTargets}
use Rattle.just_module_aliases.specs.declared.aliases.AliasMeaning.{AliasMeaning}
use Rattle.just_module_aliases.specs.declared.aliases.AliasMeaning.TheVariants as meaning
use Rattle.just_names.specs.Name.{text_of_name}
use Rattle.just_names.specs.Texts.{Text}
use Rattle.just_names.specs.declared.name.Namepath.{Namepath}
use Rattle.just_names.specs.declared.number.Number.{Number}
use Rattle.just_paths.specs.declared.modulepath.Modulepath.{Modulepath}
use Rattle.just_table.specs.Entries.{put_all}

-- what a disabled alias is found under
abbrev pub name_of_disabled_alias : Disabled → Text
name_of_disabled_alias d = text_of_name d.name

-- What the paths of a module's aliases lead through and to: its optional modules without a file, by their names, its disabled recipes, the modules in it, as they are compiled, and its recipes.
pub record Targets : Type 0 where
  pub absent : List (Text × Text)
  pub disabled : List (Text × Disabled)
  pub modules : List Justfile
  pub recipes : List (Text × RecipeKey)

abbrev pub alias_targets : List (Text × Text) → List (Text × Disabled) → List Justfile → List (Text × RecipeKey) → Targets
alias_targets absent disabled modules recipes = record { absent = absent; disabled = disabled; modules = modules; recipes = recipes }

-- the same of a compiled module
abbrev pub targets_of : Justfile → Targets
targets_of j = alias_targets (out-Justfile j).absent_modules (out-Justfile j).disabled_recipes (out-Justfile j).modules (out-Justfile j).recipes

-- what is meant by a path that resolves to a recipe so
abbrev pub as_recipe : Option (Resolution Number) → Option AliasMeaning
as_recipe None = None
as_recipe (Some (resolution.Disabled modules)) = Some (meaning.Disabled modules)
as_recipe (Some (resolution.Resolved number)) = Some (meaning.Recipe number)

-- what is meant by a path that resolves to a module so, or where it does not by what it means else
abbrev pub as_module : Option (Resolution Modulepath) → Option AliasMeaning → Option AliasMeaning
as_module None other = other
as_module (Some (resolution.Disabled modules)) other = Some (meaning.Disabled modules)
as_module (Some (resolution.Resolved path)) other = Some (meaning.Module path)

-- What is meant by a path: the module that it leads to, or where it leads to none the recipe. What lies in optional modules without a file is disabled. Aliases are not looked at.
abbrev pub alias_meant : Targets → Namepath → Option AliasMeaning
alias_meant t path = as_module (resolved_module t.absent t.modules path) (as_recipe (resolved_recipe t.absent t.disabled t.modules t.recipes path))

-- an alias of that, in place of a path
abbrev pub aimed : {T : Type 0} → Alias Namepath → T → Alias T
aimed alias target = record { attributes = alias.attributes; name = alias.name; target = target }

-- what an alias with a meaning is among those that are disabled, those of modules, and those of recipes: each is in one of these
abbrev pub as_disabled : Alias Namepath → Option AliasMeaning → List Disabled
as_disabled alias (Some (meaning.Disabled modules)) = record { name = alias.name; modules = modules } ∷ []
as_disabled alias _ = []

abbrev pub as_module_alias : Alias Namepath → Option AliasMeaning → List (Alias Modulepath)
as_module_alias alias (Some (meaning.Module path)) = aimed alias path ∷ []
as_module_alias alias _ = []

abbrev pub as_recipe_alias : Alias Namepath → Option AliasMeaning → List (Alias Number)
as_recipe_alias alias (Some (meaning.Recipe number)) = aimed alias number ∷ []
as_recipe_alias alias _ = []

-- of aliases those that are disabled, those of modules, and those of recipes, in order
abbrev pub disabled_among : Targets → List (Alias Namepath) → List Disabled
disabled_among t = flat_map (λ (alias : Alias Namepath). as_disabled alias (alias_meant t alias.target))

abbrev pub modules_among : Targets → List (Alias Namepath) → List (Alias Modulepath)
modules_among t = flat_map (λ (alias : Alias Namepath). as_module_alias alias (alias_meant t alias.target))

abbrev pub recipes_among : Targets → List (Alias Namepath) → List (Alias Number)
recipes_among t = flat_map (λ (alias : Alias Namepath). as_recipe_alias alias (alias_meant t alias.target))

abbrev pub name_of_alias : {T : Type 0} → Alias T → Text
name_of_alias alias = text_of_name alias.name

-- the tables of these aliases, each under its name, with those that tables had before
abbrev pub aliases_onto : Targets → Aliases → List (Alias Namepath) → Aliases
aliases_onto t before aliases = record {
  disabled = put_all name_of_disabled_alias before.disabled (disabled_among t aliases);
  modules = put_all name_of_alias before.modules (modules_among t aliases);
  recipes = put_all name_of_alias before.recipes (recipes_among t aliases);
}

abbrev pub no_aliases : Aliases
no_aliases = record { disabled = []; modules = []; recipes = [] }

-- the tables of these aliases and of nothing else
abbrev pub aliases_of : Targets → List (Alias Namepath) → Aliases
aliases_of t aliases = aliases_onto t no_aliases aliases

-- tables with one more alias, which means this
abbrev pub with_meaning : Aliases → Alias Namepath → AliasMeaning → Aliases
with_meaning before alias it = record {
  disabled = put_all name_of_disabled_alias before.disabled (as_disabled alias (Some it));
  modules = put_all name_of_alias before.modules (as_module_alias alias (Some it));
  recipes = put_all name_of_alias before.recipes (as_recipe_alias alias (Some it));
}

-- that of one of these aliases does
abbrev pub UnknownTargets : Targets → List (Alias Namepath) → Cause → Type 0
UnknownTargets t aliases = BreaksTargets (λ path. alias_meant t path ≢ None) aliases
