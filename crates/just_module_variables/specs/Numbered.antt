-- Variables and functions with the numbers of what their names mean.
use Rattle.std.specs.Prelude.{List, [], ◌∷◌, map, Option, None, Some, if◌then◌else◌}
use Rattle.std.specs.Option.{option_or}
use Rattle.std.specs.Str.{bytes_eq}
use Rattle.just_names.specs.Texts.{Text}
use Rattle.just_names.specs.Name.{text_of_name}
use Rattle.just_names.specs.declared.number.Number.{Number}
use Rattle.just_ast_definitions.specs.declared.assignment.Assignment.{Assignment}
use Rattle.just_ast_definitions.specs.declared.function_definition.FunctionDefinition.{FunctionDefinition}
use Rattle.just_ast_definitions.specs.declared.function_definition.FunctionParameter.{FunctionParameter}
use Rattle.just_ast_references.specs.Numbers.{with_numbers}
use Rattle.just_parts.specs.Known.{Known, number_of}

-- the number of the last parameter of a name
abbrev pub function_parameter_number : List FunctionParameter → Text → Option Number
function_parameter_number [] name = None
function_parameter_number (p ∷ ps) name = option_or (function_parameter_number ps name) (if bytes_eq (text_of_name p.name) name then Some p.number else None)

-- the number of what a name means under parameters: of the parameter, else of the variable, else of the constant
abbrev pub number_by : (Text → Option Number) → (Text → Option Number) → List FunctionParameter → Text → Option Number
number_by variable constant parameters name = option_or (function_parameter_number parameters name) (option_or (variable name) (constant name))

abbrev pub number_in_function : Known → List FunctionParameter → Text → Option Number
number_in_function m = number_by (number_of m) m.constant

-- a variable and a function whose names have these numbers
abbrev pub with_value_numbers : (Text → Option Number) → Assignment → Assignment
with_value_numbers number a = record a { value = with_numbers number a.value }

abbrev pub assignment_by : (List FunctionParameter → Text → Option Number) → Assignment → Assignment
assignment_by number = with_value_numbers (number [])

abbrev pub function_numbered : (List FunctionParameter → Text → Option Number) → FunctionDefinition → FunctionDefinition
function_numbered number f = record f { body = with_numbers (number f.parameters) f.body }

abbrev pub numbered_assignment : Known → Assignment → Assignment
numbered_assignment m = assignment_by (number_in_function m)

abbrev pub numbered_function : Known → FunctionDefinition → FunctionDefinition
numbered_function m = function_numbered (number_in_function m)

-- the variables and the functions of a module, each under its name, with these numbers
abbrev pub numbered_assignments : Known → List (Text × Assignment)
numbered_assignments m = map (λ (entry : Text × Assignment). (entry.0, numbered_assignment m entry.1)) m.assignments

abbrev pub numbered_functions : Known → List (Text × FunctionDefinition)
numbered_functions m = map (λ (entry : Text × FunctionDefinition). (entry.0, numbered_function m entry.1)) m.functions

abbrev pub name_of_assignment : Assignment → Text
name_of_assignment a = text_of_name a.name

abbrev pub name_of_function : FunctionDefinition → Text
name_of_function f = text_of_name f.name
