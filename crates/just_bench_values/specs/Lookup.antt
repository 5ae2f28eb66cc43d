-- Where values are looked up.
use Rattle.std.specs.Prelude.{◌≡◌, List, [], ◌∷◌, ◌++◌, reverse, Option, None, Some, if◌then◌else◌, Result, Ok, Err}
use Rattle.std.specs.Borrow.{Bor}
use Rattle.std.specs.Option.{option_and_then, option_map}
use Rattle.just_errors.specs.declared.error.Error.{Error}
use Rattle.just_ast_definitions.specs.declared.assignment.Assignment.{Assignment}
use Rattle.just_ast_definitions.specs.declared.function_definition.FunctionDefinition.{FunctionDefinition}
use Rattle.just_ast_expressions.specs.declared.scope.Binding.{Binding}
use Rattle.just_ast_expressions.specs.declared.scope.Scope.{Scope}
use Rattle.just_names.specs.declared.number.Number.{Number}
use Rattle.just_parts.specs.Evaluator.{FaultsAt, Values, scope_values}
use Rattle.just_parts.specs.Needs.{same_number}
use Rattle.just_parts.specs.Told.{IsToldIn}
use Rattle.just_names.specs.Texts.{Text}
use Rattle.just_names.specs.Name.{text_of_name}
use Rattle.just_names.specs.Token.{Place}
use Rattle.just_table.specs.Entries.{find}
use Rattle.just_bench_values.specs.declared.lookup.Constant.{Constant}
use Rattle.just_bench_values.specs.declared.lookup.Constants.{Constants}
use Rattle.just_bench_values.specs.declared.lookup.Constants.TheVariants as constants
use Rattle.just_bench_values.specs.declared.lookup.Functions.{Functions}
use Rattle.just_bench_values.specs.declared.lookup.Locals.{Locals}
use Rattle.just_bench_values.specs.declared.lookup.Locals.TheVariants as locals
use Rattle.just_bench_values.specs.Values.{bound}

-- the name of a constant
abbrev pub constant_name : Constant → Text
constant_name c = text_of_name c.binding.name

-- the values of a table of constants
abbrev pub table_values : List (Text × Constant) → Values
table_values table name = option_map (λ (c : Constant). c.binding.value) (find name table)

-- the value of the first binding of a number
abbrev pub value_numbered : List Binding → Number → Option (List Text)
value_numbered [] number = None
value_numbered (b ∷ bs) number = if same_number b.number number then Some b.value else value_numbered bs number

-- a number has the value that it was bound to last
abbrev pub number_value : Scope → Number → Option (List Text)
number_value scope = value_numbered (reverse scope.bindings)

-- the values of the variables of a module in a scope, by their numbers
abbrev pub variable_values : List (Text × Assignment) → Scope → Values
variable_values assignments scope name = option_and_then (λ (a : Assignment). number_value scope a.number) (find name assignments)

abbrev pub constant_values : Constants → Values
constant_values (constants.Listed scope) = scope_values scope.now
constant_values (constants.Tabled table) = table_values table.now
constant_values (constants.Numbered variables) = variable_values variables.assignments.now variables.scope.now

-- functions, and one more behind them
abbrev pub behind : FunctionDefinition → List (Text × FunctionDefinition) → List (Text × FunctionDefinition)
behind f table = table ++ (text_of_name f.name, f) ∷ []

abbrev pub functions_with : Option (Bor FunctionDefinition) → List (Text × FunctionDefinition) → List (Text × FunctionDefinition)
functions_with None table = table
functions_with (Some f) table = behind f.now table

-- the functions that may be called
abbrev pub functions_in : Functions → List (Text × FunctionDefinition)
functions_in functions = functions_with functions.builtin functions.table.now

-- the values of what hides constants
abbrev pub local_values : Locals → Values
local_values (locals.Arguments arguments) = bound arguments.parameters.now arguments.values
local_values (locals.Bindings scope) = scope_values scope.now

-- A result tells an outcome: the value, or a fault at one of these places where there is none; want of memory aside.
abbrev pub TellsOutcome : {A : Type 0} → Option A → (Place → Type 0) → Result A Error → Type 0
TellsOutcome outcome places (Ok value) = outcome ≡ Some value
TellsOutcome outcome places (Err e) = FaultsAt outcome e × IsToldIn places e
