-- What a name means in a module.
use Rattle.std.specs.Prelude.{if◌then◌else◌, Option, Some, None, is_some, List, map}
use Rattle.std.specs.BTreeSet.{BTreeSet}
use Rattle.std.specs.Option.{option_map}
use Rattle.just_names.specs.Texts.{Text, text_of}
use Rattle.just_paths.specs.declared.modulepath.Modulepath.{Modulepath}
use Rattle.just_recipe.specs.declared.dependency.Dependency.{Dependency}
use Rattle.just_recipe.specs.declared.recipe.Recipe.{Recipe}
use Rattle.just_table.specs.Entries.{find}
use Rattle.just_justfile.specs.Closed.{HeldRecipes, recipe_aliased, recipe_named}
use Rattle.just_justfile.specs.Walks.{module_named}
use Rattle.just_justfile.specs.declared.disabled.Disabled.{Disabled}
use Rattle.just_justfile.specs.declared.justfile.Justfile.{Justfile, out-Justfile}
use Rattle.just_evaluate.specs.Destination.{submodule_aliased}
use Rattle.just_invocations.specs.declared.lookup.Found.TheVariants as found

-- What a name may mean: a module, also by an alias; a recipe, also by an alias; a recipe or an alias that modules disable which have no file, told by their paths; an optional module without a file; or nothing.
pub data Meaning : Type 0 where
  a_module : Justfile → Meaning
  a_recipe : Recipe Dependency → Meaning
  disabled_recipe : List Text → Meaning
  disabled_alias : List Text → Meaning
  absent_module : Meaning
  nothing : Meaning

-- the text of a path, and those of a set of paths, in order
abbrev pub module_path_text : Modulepath → Text
module_path_text path = text_of path.components path.spaced

abbrev pub path_texts : BTreeSet Modulepath → List Text
path_texts paths = map module_path_text paths.keys

-- the modules that disable a recipe, or an alias, of the name
abbrev pub disabling : List (Text × Disabled) → Text → Option (List Text)
disabling table name = option_map (λ (it : Disabled). path_texts it.modules) (find name table)

-- what was found, or else the other
abbrev pub found_or : {X : Type 0} → (X → Meaning) → Option X → Meaning → Meaning
found_or f (Some x) other = f x
found_or f None other = other

-- what the name means in the module, the first that applies
abbrev pub meaning : Justfile → HeldRecipes → Justfile → Text → Meaning
meaning root recipes here name =
    found_or a_module (module_named name (out-Justfile here).modules)
    (found_or a_module (submodule_aliased root here name)
    (found_or a_recipe (recipe_named here recipes name)
    (found_or a_recipe (recipe_aliased here recipes name)
    (found_or disabled_recipe (disabling (out-Justfile here).disabled_recipes name)
    (found_or disabled_alias (disabling (out-Justfile here).aliases.disabled name)
    (if is_some (find name (out-Justfile here).absent_modules) then absent_module else nothing))))))
