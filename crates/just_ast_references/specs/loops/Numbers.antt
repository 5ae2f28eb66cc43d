-- What private functions say beside `Numbers.antt`.
use Rattle.std.specs.Prelude.{ℕ, List, Option}
use Rattle.just_names.specs.declared.number.Number.{Number}
use Rattle.just_ast_expressions.specs.declared.expression.Expression.{Expression, roll-Expression}
use Rattle.just_ast_expressions.specs.declared.expression.Shape.{Shape, fold-Shape}
use Rattle.just_ast_references.specs.Numbers.{shape_numbered}

unfoldable pub shape_with_numbers : (List ℕ → Option Number) → Shape → Shape
shape_with_numbers number_of = fold-Shape Shape Expression (shape_numbered number_of) roll-Expression
