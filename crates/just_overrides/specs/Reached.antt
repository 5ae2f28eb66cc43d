-- The variables that keys of overrides mean, each the path of a module and a name, among compiled modules.
use Rattle.std.specs.Prelude.{List, [], ◌∷◌, flat_map, Option, None, Some}
use Rattle.std.specs.Option.{option_and_then, option_map, option_or}
use Rattle.just_ast_definitions.specs.declared.alias.Alias.{Alias}
use Rattle.just_ast_definitions.specs.declared.assignment.Assignment.{Assignment}
use Rattle.just_justfile.specs.Walks.{inner_along, module_named}
use Rattle.just_justfile.specs.declared.justfile.Justfile.{Justfile, out-Justfile}
use Rattle.just_module_tree.specs.Overrides.{OverrideKey, shown_key}
use Rattle.just_names.specs.Texts.{Text}
use Rattle.just_names.specs.declared.number.Number.{Number}
use Rattle.just_paths.specs.declared.modulepath.Modulepath.{Modulepath}
use Rattle.just_table.specs.Entries.{find}

-- the module that an alias of a name in a module stands for, whose target is a path of modules from the root
abbrev pub aliased : Justfile → Justfile → Text → Option Justfile
aliased root j name = option_and_then (λ (alias : Alias Modulepath). inner_along root alias.target.components) (find name (out-Justfile j).aliases.modules)

-- the module that a name leads to from a module: the one of the name in it, or else that of an alias
abbrev pub module_step : Justfile → Justfile → Text → Option Justfile
module_step root j name = option_or (module_named name (out-Justfile j).modules) (aliased root j name)

-- the module that names lead to from a module, one after another
abbrev pub reached_from : Justfile → Justfile → List Text → Option Justfile
reached_from root j [] = Some j
reached_from root j (name ∷ names) = option_and_then (λ (next : Justfile). reached_from root next names) (module_step root j name)

abbrev pub reached : Justfile → List Text → Option Justfile
reached root = reached_from root root

-- the number of the variable of a name in a module
abbrev pub number_in_module : Text → Justfile → Option Number
number_in_module name j = option_map (λ (a : Assignment). a.number) (find name (out-Justfile j).assignments)

-- the number of the variable that a key means
abbrev pub variable_of : Justfile → OverrideKey → Option Number
variable_of root key = option_and_then (number_in_module key.1) (reached root key.0.components)

-- the number that is meant, with the value that is given
abbrev pub given_for : Text → Option Number → List (Number × Text)
given_for value None = []
given_for value (Some number) = (number, value) ∷ []

-- what is told of a key that means nothing
abbrev pub told_of : Text → Option Number → List Text
told_of key None = key ∷ []
told_of key (Some number) = []

-- the numbers of the variables that keys mean, with the values that are given, in the order of the keys
abbrev pub overrides_meant : Justfile → List (OverrideKey × Text) → List (Number × Text)
overrides_meant root entries = flat_map (λ (entry : OverrideKey × Text). given_for entry.1 (variable_of root entry.0)) entries

-- the keys that mean no variable, as they are shown, in their order
abbrev pub unknown : Justfile → List (OverrideKey × Text) → List Text
unknown root entries = flat_map (λ (entry : OverrideKey × Text). told_of (shown_key entry.0) (variable_of root entry.0)) entries
