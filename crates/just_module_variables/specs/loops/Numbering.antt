-- The numbers that a resolver has for names.
use Rattle.std.specs.Prelude.{List, Option}
use Rattle.std.specs.HashMap.{get}
use Rattle.std.specs.Map.{values_of}
use Rattle.std.specs.Str.{bytes_eq}
use Rattle.just_names.specs.Texts.{Text}
use Rattle.just_names.specs.declared.number.Number.{Number}
use Rattle.just_parts.specs.Syntax.{SyntaxAnswers}
use Rattle.just_ast_definitions.specs.declared.assignment.Assignment.{Assignment}
use Rattle.just_ast_definitions.specs.declared.function_definition.FunctionDefinition.{FunctionDefinition}
use Rattle.just_ast_definitions.specs.declared.function_definition.FunctionParameter.{FunctionParameter}
use Rattle.just_module_variables.specs.Numbered.{number_by}
use Rattle.just_module_variables.specs.loops.Numbered.{assignments_by, functions_by}
use Rattle.just_module_variables.specs.declared.resolution.Numbering.{Numbering}

abbrev pub number_here : {A : Type 0} → SyntaxAnswers → Numbering A → List FunctionParameter → Text → Option Number
number_here answers resolver = number_by (get bytes_eq resolver.bindings) answers.constant

-- the tables of a module's variables and functions with them
abbrev pub assignments_here : {A : Type 0} → SyntaxAnswers → Numbering A → List (Text × Assignment)
assignments_here answers resolver = assignments_by (number_here answers resolver) (values_of resolver.known.assignments.now)

abbrev pub functions_here : {A : Type 0} → SyntaxAnswers → Numbering A → List (Text × FunctionDefinition)
functions_here answers resolver = functions_by (number_here answers resolver) (values_of resolver.known.functions.now)
