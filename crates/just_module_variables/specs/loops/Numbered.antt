-- What private functions say beside `Numbered.antt`.
use Rattle.std.specs.Prelude.{◌≡◌, List, [], map, Option}
use Rattle.std.specs.Option.{option_map}
use Rattle.just_names.specs.Texts.{Text}
use Rattle.just_names.specs.declared.number.Number.{Number}
use Rattle.just_ast_definitions.specs.declared.assignment.Assignment.{Assignment}
use Rattle.just_ast_definitions.specs.declared.function_definition.FunctionDefinition.{FunctionDefinition}
use Rattle.just_ast_definitions.specs.declared.function_definition.FunctionParameter.{FunctionParameter}
use Rattle.just_table.specs.Entries.{IsKeyed, find, put_all}
use Rattle.just_module_variables.specs.Numbered.{assignment_by, function_numbered, name_of_assignment, name_of_function}

-- numbers are those of variables, if each stands under its own name
abbrev pub AreBindings : List (Text × Assignment) → (Text → Option Number) → Type 0
AreBindings assignments numbers = IsKeyed name_of_assignment assignments → (name : Text) → numbers name ≡ option_map (λ (a : Assignment). a.number) (find name assignments)

-- tables of these variables and of these functions, whose names have these numbers
abbrev pub assignments_by : (List FunctionParameter → Text → Option Number) → List Assignment → List (Text × Assignment)
assignments_by number assignments = put_all name_of_assignment [] (map (assignment_by number) assignments)

abbrev pub functions_by : (List FunctionParameter → Text → Option Number) → List FunctionDefinition → List (Text × FunctionDefinition)
functions_by number functions = put_all name_of_function [] (map (function_numbered number) functions)
