-- How many texts parameters may have.
use Rattle.std.specs.Prelude.{List, [], ◌∷◌, Option, Some, None, codes, if◌then◌else◌}
use Rattle.just_names.specs.Texts.{Text}
use Rattle.just_ast_definitions.specs.Parameter.{is_variadic}
use Rattle.just_ast_definitions.specs.declared.parameter.ParameterKind.{ParameterKind}
use Rattle.just_errors.specs.declared.fault.Fault.{Fault}

-- what is told of a parameter that has several texts, and may have one
abbrev pub is_one : Fault
is_one = record { message = codes "it takes one value, and is given more" }

-- why a parameter of a kind may not have so many texts: several are for a variadic one
abbrev pub count_fault : ParameterKind → List Text → Option Fault
count_fault kind [] = None
count_fault kind (text ∷ []) = None
count_fault kind (text ∷ other ∷ texts) = if is_variadic kind then None else Some is_one
