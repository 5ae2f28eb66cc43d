-- Where a path leads that names what is evaluated.
use Rattle.std.specs.Prelude.{◌≡◌, ◌⊎◌, if◌then◌else◌, is_some, List, [], ◌∷◌, Option, Some, None}
use Rattle.std.specs.Option.{option_and_then, option_or}
use Rattle.just_ast_definitions.specs.declared.alias.Alias.{Alias}
use Rattle.just_ast_definitions.specs.declared.assignment.Assignment.{Assignment}
use Rattle.just_errors.specs.declared.error.Error.{Error}
use Rattle.just_errors.specs.declared.error.Error.TheVariants as error
use Rattle.just_errors.specs.declared.invocation_error.InvocationError.TheVariants.{ModuleAbsent}
use Rattle.just_errors.specs.declared.run_error.RunError.TheVariants.{EvalUnknownSubmodule, EvalUnknownSubmoduleOrVariable}
use Rattle.just_names.specs.Texts.{Text, text_of}
use Rattle.just_paths.specs.declared.modulepath.Modulepath.{Modulepath}
use Rattle.just_table.specs.Entries.{find}
use Rattle.just_justfile.specs.Closed.{path_on}
use Rattle.just_justfile.specs.Walks.{inner_along, module_named}
use Rattle.just_justfile.specs.declared.justfile.Justfile.{Justfile, out-Justfile}

-- Where a path leads: to a module, of which one variable is meant or all of it; or nowhere, since a component is the name of an optional module without a file, which its path tells; since one before the last leads to no module; or since the last is the name of neither a module nor a variable.
pub data Destination : Type 0 where
  leads_to : Justfile → Option Assignment → Destination
  lacks_file : Text → Destination
  lacks_submodule : Text → Destination
  lacks_submodule_or_variable : Text → Destination

-- the module for which an alias stands: that to which its path leads from the root
abbrev pub submodule_aliased : Justfile → Justfile → Text → Option Justfile
submodule_aliased root here name =
    option_and_then (λ (alias : Alias Modulepath). inner_along root alias.target.components) (find name (out-Justfile here).aliases.modules)

-- the module to which a component leads from a module: one of its own, which goes before one of an alias
abbrev pub submodule_named : Justfile → Justfile → Text → Option Justfile
submodule_named root here name = option_or (module_named name (out-Justfile here).modules) (submodule_aliased root here name)

-- the variable of a module that a component means, which is the last: no others follow it
abbrev pub last_variable : Justfile → Text → List Text → Option Assignment
last_variable here name [] = find name (out-Justfile here).assignments
last_variable here name (_ ∷ _) = None

-- the path from the root of a name in a module
abbrev pub path_below : Justfile → Text → Text
path_below here name = let path = path_on (out-Justfile here).module_path name in text_of path.components path.spaced

-- what a component lacks that these follow
abbrev pub lacks_name : Text → List Text → Destination
lacks_name name [] = lacks_submodule_or_variable name
lacks_name name (_ ∷ _) = lacks_submodule name

-- the same in a module, which may have an optional one of the name
abbrev pub lacks_in : Justfile → Text → List Text → Destination
lacks_in here name names = if is_some (find name (out-Justfile here).absent_modules) then lacks_file (path_below here name) else lacks_name name names

-- Where components lead from a module: none of them to the module, all of it; a last one to the variable of its name; and others to where the rest of them leads from the module to which the first leads.
abbrev pub destination_from : Justfile → Justfile → List Text → Destination
destination_from root here [] = leads_to here None
destination_from root here (name ∷ names) = elim (last_variable here name names) as (λ _. Destination) [
  | Some variable ↦ leads_to here (Some variable)
  | None ↦ elim (submodule_named root here name) as (λ _. Destination) [
    | Some inner ↦ destination_from root inner names
    | None ↦ lacks_in here name names
  ]
]

-- where a path leads from the root, and without one to the root itself
abbrev pub destination : Justfile → Option Modulepath → Destination
destination root None = leads_to root None
destination root (Some path) = destination_from root root path.components

-- an error, or want of memory for its fields
abbrev pub IsErrorOrMemory : Error → Error → Type 0
IsErrorOrMemory told e = (e ≡ error.Memory) ⊎ (e ≡ told)

-- the error tells why a path leads nowhere
abbrev pub TellsLack : Destination → Error → Type 0
TellsLack (leads_to j variable) e = ⊥
TellsLack (lacks_file path) e = IsErrorOrMemory (error.Invocation (ModuleAbsent path)) e
TellsLack (lacks_submodule component) e = IsErrorOrMemory (error.Run (EvalUnknownSubmodule component)) e
TellsLack (lacks_submodule_or_variable component) e = IsErrorOrMemory (error.Run (EvalUnknownSubmoduleOrVariable component)) e
