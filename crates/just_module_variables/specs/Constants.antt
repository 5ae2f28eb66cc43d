-- What the constants and the settings of a module come to, as the code has them.
use Rattle.std.specs.Prelude.{List}
use Rattle.std.specs.List.{Contains}
use Rattle.just_module_variables.specs.declared.constants.Constants.{Constants}
use Rattle.just_module_variables.specs.declared.variables.Variables.{Variables}
use Rattle.just_module_contents.specs.Constants.{Evaluated}
use Rattle.just_parts.specs.Evaluator.{Covers, Values, scope_values}
use Rattle.just_parts.specs.Known.{sources}
use Rattle.just_ast_expressions.specs.declared.expression.Expression.{Expression}

abbrev pub evaluated_in : Constants → Evaluated
evaluated_in it = record { constants = scope_values it.scope; settings = it.settings }

-- whatever these expressions read, as the tables of a module have it, has a value
abbrev pub CoversAll : Variables → Values → List Expression → Type 0
CoversAll variables values es = (e : Expression) → Contains es e → Covers (sources variables.assignments variables.functions) values e
