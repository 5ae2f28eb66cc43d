-- What the caller overrides, by the numbers of variables.
use Rattle.std.specs.Prelude.{List, [], ◌∷◌, flat_map, map, Option, None, Some, option_to_list, if◌then◌else◌}
use Rattle.std.specs.Option.{option_or}
use Rattle.just_names.specs.Texts.{Text}
use Rattle.just_names.specs.declared.number.Number.{Number}
use Rattle.just_parts.specs.Needs.{same_number}
use Rattle.just_ast_definitions.specs.declared.assignment.Assignment.{Assignment}
use Rattle.just_module_contents.specs.Contents.{Contents}
use Rattle.just_module_contents.specs.Known.{variables_under}

-- the value that overrides a variable under its name, with its number
abbrev pub override_found : (Text → Option Text) → Text × Assignment → List (Number × Text)
override_found overrides entry = map (λ (value : Text). (entry.1.number, value)) (option_to_list (overrides entry.0))

-- those that override variables of a module, in byte order of the names
abbrev pub overrides_found : (Text → Option Text) → List (Text × Assignment) → List (Number × Text)
overrides_found overrides = flat_map (override_found overrides)

-- those of the variables that a module keeps
abbrev pub overridden_among : (Text → Option Text) → Contents → List (Number × Text)
overridden_among overrides m = overrides_found overrides (variables_under m.variables)

-- the last value of a number
abbrev pub last_of : List (Number × Text) → Number → Option Text
last_of [] n = None
last_of (entry ∷ entries) n = option_or (last_of entries n) (if same_number entry.0 n then Some entry.1 else None)
