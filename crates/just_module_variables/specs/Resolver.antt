-- What a resolver knows.
use Rattle.std.specs.Prelude.{Bool, List, Option}
use Rattle.std.specs.HashMap.{get}
use Rattle.std.specs.Str.{bytes_eq}
use Rattle.just_names.specs.Texts.{Text}
use Rattle.just_names.specs.declared.number.Number.{Number}
use Rattle.just_parts.specs.Needs.{has_number}
use Rattle.just_module_variables.specs.Numbered.{number_by}
use Rattle.just_parts.specs.Syntax.{SyntaxAnswers}
use Rattle.just_ast_definitions.specs.declared.function_definition.FunctionParameter.{FunctionParameter}
use Rattle.just_module_variables.specs.declared.variable_resolver.VariableResolver.{VariableResolver}
use Rattle.just_parts.specs.Known.{Known, sources}
use Rattle.just_name_resolution.specs.Lent.{known_in}

-- what names stand for
abbrev pub known_by : {A : Type 0} → SyntaxAnswers → VariableResolver A → Known
known_by answers resolver = known_in answers resolver.known

-- what variables read is told by the tables alone
abbrev pub tables_by : {A : Type 0} → VariableResolver A → Known
tables_by resolver = sources resolver.known.assignments.now resolver.known.functions.now

-- whether the variable of a number is overridden
abbrev pub overridden : {A : Type 0} → VariableResolver A → Number → Bool
overridden resolver = has_number resolver.overrides.now

-- the number of what a name means under parameters
abbrev pub number_here : {A : Type 0} → SyntaxAnswers → VariableResolver A → List FunctionParameter → Text → Option Number
number_here answers resolver = number_by (get bytes_eq resolver.bindings) answers.constant
