-- Where paths lead from a module, through the modules in it.
use Rattle.std.specs.Prelude.{List, [], ◌∷◌, map, Option, None, Some, is_some, false, if◌then◌else◌}
use Rattle.std.specs.BTreeSet.{BTreeSet}
use Rattle.std.specs.Cmp.Lexicographic.{slice_cmp}
use Rattle.std.specs.List.{Contains, find as first_of}
use Rattle.std.specs.List.Sorted.{IsStrictlySortedBy}
use Rattle.std.specs.Option.{option_map}
use Rattle.std.specs.Ordering.{nat_cmp}
use Rattle.std.specs.Str.{bytes_eq}
use Rattle.just_names.specs.Name.{text_of_name, texts_of_path}
use Rattle.just_names.specs.Texts.{Text}
use Rattle.just_names.specs.declared.name.Namepath.{Namepath}
use Rattle.just_names.specs.declared.number.Number.{Number}
use Rattle.just_paths.specs.declared.modulepath.Modulepath.{Modulepath}
use Rattle.just_table.specs.Entries.{find}
use Rattle.just_justfile.specs.Module.{module_name}
use Rattle.just_justfile.specs.declared.disabled.Disabled.{Disabled}
use Rattle.just_justfile.specs.declared.justfile.Justfile.{Justfile, out-Justfile}
use Rattle.just_justfile.specs.declared.justfile.RecipeKey.{RecipeKey}
use Rattle.just_justfile.specs.declared.resolution.Resolution.{Resolution}
use Rattle.just_justfile.specs.declared.resolution.Resolution.TheVariants as resolution

-- the names of modules rise in byte order, so that each stands once
abbrev pub NamesRise : List Justfile → Type 0
NamesRise modules = IsStrictlySortedBy (slice_cmp nat_cmp) (map module_name modules)

-- The names of modules rise in byte order, and so do those of the modules in each of them.
pub data AreOrdered : List Justfile → Type 0 where
  in_order : {modules : List Justfile} → NamesRise modules → ((inner : Justfile) → Contains modules inner → AreOrdered (out-Justfile inner).modules) → AreOrdered modules

-- so do the names of the modules in this one, and in each of them
abbrev pub AreModulesOrdered : Justfile → Type 0
AreModulesOrdered j = AreOrdered (out-Justfile j).modules

-- their names
pub names_rise : {modules : List Justfile} → AreOrdered modules → NamesRise modules
names_rise (in_order rise below) = rise

-- the modules in each of them
pub inner_ordered : {modules : List Justfile} → AreOrdered modules → (inner : Justfile) → Contains modules inner → AreModulesOrdered inner
inner_ordered (in_order rise below) = below

-- the module of a name
abbrev pub module_named : Text → List Justfile → Option Justfile
module_named name modules = first_of (λ j. bytes_eq (module_name j) name) modules

-- the module to which names lead from a module
abbrev pub inner_along : Justfile → List Text → Option Justfile
inner_along j [] = Some j
inner_along j (name ∷ names) = elim (module_named name (out-Justfile j).modules) as (λ _. Option Justfile) [
  | Some inner ↦ inner_along inner names
  | None ↦ None
]

-- Where names lead: no names nowhere else, others into a module, to a module without a file, told by the names up to it, or to no module.
pub data End : Type 0 where
  Here : End
  Inside : Justfile → End
  Absent : List Text → End
  Nowhere : End

-- where names lead of which the first leads into a module, by where the others lead from there
abbrev pub beyond : Text → Justfile → End → End
beyond name j Here = Inside j
beyond name j (Inside inner) = Inside inner
beyond name j (Absent names) = Absent (name ∷ names)
beyond name j Nowhere = Nowhere

-- where names lead from a module with these absent modules and these in it: one that is there goes before an absent one of its name
abbrev pub end_of_names : List (Text × Text) → List Justfile → List Text → End
end_of_names absent modules [] = Here
end_of_names absent modules (name ∷ names) = elim (module_named name modules) as (λ _. End) [
  | Some j ↦ beyond name j (end_of_names (out-Justfile j).absent_modules (out-Justfile j).modules names)
  | None ↦ if is_some (find name absent) then Absent (name ∷ []) else Nowhere
]

-- where names lead from a module
abbrev pub end_from : Justfile → List Text → End
end_from root names = end_of_names (out-Justfile root).absent_modules (out-Justfile root).modules names

-- the path of names, and the set of one path
abbrev pub path_along : List Text → Modulepath
path_along names = record { components = names; spaced = false }

abbrev pub only : Modulepath → BTreeSet Modulepath
only path = record { keys = path ∷ [] }

-- what a name leads to in a module with these recipes, and with these that are disabled
abbrev pub recipe_under : List (Text × RecipeKey) → List (Text × Disabled) → Text → Option (Resolution Number)
recipe_under recipes disabled name = elim (find name recipes) as (λ _. Option (Resolution Number)) [
  | Some key ↦ Some (resolution.Resolved key.number)
  | None ↦ option_map (λ (it : Disabled). resolution.Disabled it.modules) (find name disabled)
]

-- the same where the names before it lead
abbrev pub recipe_by : End → List (Text × RecipeKey) → List (Text × Disabled) → Text → Option (Resolution Number)
recipe_by Here recipes disabled name = recipe_under recipes disabled name
recipe_by (Inside j) recipes disabled name = recipe_under (out-Justfile j).recipes (out-Justfile j).disabled_recipes name
recipe_by (Absent names) recipes disabled name = Some (resolution.Disabled (only (path_along names)))
recipe_by Nowhere recipes disabled name = None

-- the recipe to which a path leads from a module with these absent modules, disabled recipes, modules in it and recipes
abbrev pub resolved_recipe : List (Text × Text) → List (Text × Disabled) → List Justfile → List (Text × RecipeKey) → Namepath → Option (Resolution Number)
resolved_recipe absent disabled modules recipes path = recipe_by (end_of_names absent modules (map text_of_name path.front)) recipes disabled (text_of_name path.last)

-- the recipe to which a path leads from a module
abbrev pub recipe_from : Justfile → Namepath → Option (Resolution Number)
recipe_from root path = resolved_recipe (out-Justfile root).absent_modules (out-Justfile root).disabled_recipes (out-Justfile root).modules (out-Justfile root).recipes path

-- what the last name of a path leads to in a module with these absent modules and these in it
abbrev pub module_at : List (Text × Text) → List Justfile → Namepath → Option (Resolution Modulepath)
module_at absent modules path = elim (module_named (text_of_name path.last) modules) as (λ _. Option (Resolution Modulepath)) [
  | Some j ↦ Some (resolution.Resolved (out-Justfile j).module_path)
  | None ↦ if is_some (find (text_of_name path.last) absent) then Some (resolution.Disabled (only (path_along (texts_of_path path)))) else None
]

-- the same where the names before it lead
abbrev pub module_by : End → List (Text × Text) → List Justfile → Namepath → Option (Resolution Modulepath)
module_by Here absent modules path = module_at absent modules path
module_by (Inside j) absent modules path = module_at (out-Justfile j).absent_modules (out-Justfile j).modules path
module_by (Absent names) absent modules path = None
module_by Nowhere absent modules path = None

-- the module to which a path leads from a module with these absent modules and these in it
abbrev pub resolved_module : List (Text × Text) → List Justfile → Namepath → Option (Resolution Modulepath)
resolved_module absent modules path = module_by (end_of_names absent modules (map text_of_name path.front)) absent modules path
