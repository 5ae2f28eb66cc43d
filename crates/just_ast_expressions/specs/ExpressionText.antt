-- The text of an expression.
use Rattle.std.specs.Prelude.{ℕ, List}
use Rattle.just_ast_expressions.specs.declared.expression.Expression.{Expression, out-Expression}

-- its spelling
abbrev pub expression_text : Expression → List ℕ
expression_text expression = (out-Expression expression).text
