-- What private functions say beside `Constants.antt`.
use Rattle.std.specs.Prelude.{List, flat_map}
use Rattle.std.specs.List.{All, Contains}
use Rattle.just_module_variables.specs.declared.variables.Variables.{Variables}
use Rattle.just_errors.specs.Causes.{Reports}
use Rattle.just_errors.specs.declared.error.Error.{Error}
use Rattle.just_parts.specs.Evaluator.{Covers, Values, set_expressions}
use Rattle.just_parts.specs.Known.{Known, none_hidden, sources}
use Rattle.just_ast_expressions.specs.declared.expression.Expression.{Expression}
use Rattle.just_ast_definitions.specs.declared.setting.Set.{Set}
use Rattle.just_parts.specs.Misnaming.{Misnames}

-- the same of what some items set
abbrev pub CoversSets : Variables → Values → List Set → Type 0
CoversSets variables values sets = All (Covers (sources variables.assignments variables.functions) values) (flat_map set_expressions sets)

-- An error names what is at fault with a name in one of some expressions.
pub record TellsFaultIn (m : Known) (es : List Expression) (error : Error) : Type 0 where
  pub e : Expression
  pub there : Contains es e
  pub told : Reports (Misnames m none_hidden e) error
