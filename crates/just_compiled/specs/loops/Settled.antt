-- Modules whose tables name recipes that are held.
use Rattle.std.specs.Prelude.{◌≡◌, ◌≢◌, ℕ, List, [], map, IsSome, Option, Some}
use Rattle.std.specs.List.{Contains}
use Rattle.just_compiled.specs.Labelled.{slot}
use Rattle.just_justfile.specs.Walks.{NamesRise}
use Rattle.just_justfile.specs.declared.disabled.Disabled.{Disabled}
use Rattle.just_justfile.specs.declared.justfile.Justfile.{Justfile, out-Justfile}
use Rattle.just_justfile.specs.declared.justfile.RecipeKey.{RecipeKey}
use Rattle.just_names.specs.Texts.{Text}
use Rattle.just_recipe.specs.Recipes.{find_number}
use Rattle.just_recipe.specs.declared.dependency.Dependency.{Dependency}
use Rattle.just_recipe.specs.declared.recipe.Recipe.{Recipe}
use Rattle.just_table.specs.Entries.{find}

-- Each recipe in the module's table is held under its number, each that is disabled is so by some module, the names of the modules in it rise in byte order, and the same holds of these.
pub data IsSettled (held : List (Recipe Dependency)) : Justfile → Type 0 where
  settled : {j : Justfile} → ((name : Text) (key : RecipeKey) → find name (out-Justfile j).recipes ≡ Some key → IsSome (find_number held key.number.0))
      → ((name : Text) (d : Disabled) → find name (out-Justfile j).disabled_recipes ≡ Some d → d.modules.keys ≢ [])
      → NamesRise (out-Justfile j).modules
      → ((inner : Justfile) → Contains (out-Justfile j).modules inner → IsSettled held inner) → IsSettled held j

-- so are those that are held at the places of a row
abbrev pub AreInnerSettled : List (Recipe Dependency) → List (Option Justfile) → List ℕ → Type 0
AreInnerSettled held slots row = (js : List Justfile) → map Some js ≡ map (slot slots) row → (j : Justfile) → Contains js j → IsSettled held j
