-- What the plain evaluation answers in runs.
use Rattle.std.specs.Prelude.{Bool, List, Option, Some, None}
use Rattle.std.specs.HashSet.{HashSet, contains}
use Rattle.std.specs.Option.{option_map}
use Rattle.std.proofs.Common.{BuildHasherDefault, FoldHasher}
use Rattle.just_ast_definitions.specs.declared.function_definition.FunctionDefinition.{FunctionDefinition}
use Rattle.just_ast_definitions.specs.declared.line.Line.{Line}
use Rattle.just_ast_definitions.specs.declared.parameter.Parameter.{Parameter}
use Rattle.just_ast_expressions.specs.declared.expression.Expression.{Expression}
use Rattle.just_ast_expressions.specs.declared.scope.Scope.{Scope}
use Rattle.just_names.specs.Texts.{Text}
use Rattle.just_names.specs.declared.number.Number.{Number}
use Rattle.just_parts.specs.Evaluator.{functions_by_name, scope_values, wanted_by, Wanted}
use Rattle.just_parts.specs.Needs.{same_number}
use Rattle.just_run_layers.specs.declared.held.Held.{Held}
use Rattle.just_run_layers.specs.Evaluation.{ContextContents, Inquiry, Assignments, Parameters, Value, StringOf, LineOf, Environment, NumberSet, ScopeRequest, in_set}
use Rattle.just_run_layers.specs.Host.{Answer, Bound, Changed, TextGiven, Refused, ScopeGiven, Valued}
use Rattle.just_bench_values.specs.Constants.{scope_of}
use Rattle.just_bench_evaluation.specs.Dependency.{dependency_function}
use Rattle.just_bench_evaluation.specs.Environments.{environment_changes}
use Rattle.just_bench_evaluation.specs.Lines.{fragments_text}
use Rattle.just_bench_values.specs.Lookup.{behind, variable_values}
use Rattle.just_bench_evaluation.specs.Parameters.{bind_all, none_bound_in}
use Rattle.just_bench_evaluation.specs.Refusals.{no_value}
use Rattle.just_bench_values.specs.Settings.{text_with}
use Rattle.just_bench_values.specs.Values.{Outcome, value_with}
use Rattle.just_bench_evaluation.specs.declared.requests.Asked.{Asked}

-- The value of an expression in a module and a scope, with a function behind those of the module. A name has the value that the scope binds it to; in the body of a function, which no recipe's parameters hide, a variable has the value of its number.
abbrev pub value_behind : FunctionDefinition → ContextContents → Scope → Expression → Outcome
value_behind builtin context scope = value_with 64 (functions_by_name (behind builtin context.functions)) (variable_values context.assignments scope) (scope_values scope)

-- the same with the built-in function
abbrev pub run_value : ContextContents → Bool → Scope → Expression → Outcome
run_value context is_dependency = value_behind (dependency_function is_dependency) context

abbrev pub run_text : ContextContents → Bool → Scope → Expression → Option Text
run_text context is_dependency scope = text_with (run_value context is_dependency scope)

-- the text of a line
abbrev pub run_line : ContextContents → Bool → Scope → Line → Option Text
run_line context is_dependency scope line = fragments_text (run_value context is_dependency scope) line.fragments

-- what parameters come to
abbrev pub run_parameters : ContextContents → Bool → Scope → List (List Text) → List Parameter → Option Held
run_parameters context is_dependency scope groups parameters = bind_all (run_value context is_dependency) parameters groups (none_bound_in scope)

-- the variables of a module, in a set or all: those that are needed as constants are, whatever the parent's scope binds
abbrev pub wanted_of : ContextContents → NumberSet → Wanted
wanted_of context set = wanted_by context.assignments context.functions context.overrides (in_set set) context.settings.lists

abbrev pub run_scope : ContextContents → NumberSet → Option Scope
run_scope context set = scope_of context.assignments context.evaluation_order (wanted_of context set)

-- an answer, or that there is no value
abbrev pub or_refused : {A : Type 0} → (A → Answer) → Option A → Answer
or_refused answer None = Refused no_value
or_refused answer (Some x) = answer x

-- the answer to each question
abbrev pub plain_answer : Inquiry → Answer
plain_answer (Assignments context parent set) = or_refused (λ scope. ScopeGiven scope) (run_scope context set)
plain_answer (Parameters context scope groups is_dependency parameters recipe) = or_refused (λ bound. Bound bound) (run_parameters context is_dependency scope groups parameters)
plain_answer (Value around e) = or_refused (λ value. Valued value) (run_value around.context around.is_dependency around.scope e)
plain_answer (StringOf around e) = or_refused (λ text. TextGiven text) (run_text around.context around.is_dependency around.scope e)
plain_answer (LineOf around line continued) = or_refused (λ text. TextGiven text) (run_line around.context around.is_dependency around.scope line)
plain_answer (Environment dotenv scope settings unexports) = Changed (environment_changes dotenv scope settings unexports)

-- a question for variables, as it is kept
abbrev pub request_of : Asked → ScopeRequest
request_of asked = record { path = asked.path; set = option_map (λ (set : HashSet Number (BuildHasherDefault FoldHasher)). contains same_number set) asked.set }
