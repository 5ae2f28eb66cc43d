-- What each shape comes to.
use Rattle.std.proofs.Common.{◌≡◌, sym, ◌∙◌, ap, List, [], ◌∷◌, map, Option, None, Some}
use Rattle.std.specs.Option.{option_and_then, option_map}
use Rattle.just_names.specs.Texts.{Text}
use Rattle.just_names.specs.Name.{text_of_name}
use Rattle.just_names.specs.declared.name.Name.{Name}
use Rattle.just_names.specs.declared.number.Number.{Number}
use Rattle.just_parts.specs.Evaluator.{Values}
use Rattle.just_ast_expressions.specs.declared.expression.ConditionalOperator.{ConditionalOperator}
use Rattle.just_ast_expressions.specs.declared.expression.Expression.{Expression, out-Expression, fold_out-Expression}
use Rattle.just_ast_expressions.specs.declared.expression.Shape.{Shape, roll-Shape, fold-roll-Shape, map-Shape}
use Rattle.just_ast_expressions.specs.declared.expression.Shape.TheOpen.{Shape-F}
use Rattle.just_ast_expressions.specs.declared.expression.Shape.TheVariants as shape
use Rattle.just_bench_values.specs.Values.{Outcome, all_of, evaluated, expression_layer, one_after_another, put_together, shape_evaluated, value_layer}

module _ (variable : Values) (call : Text → List (List Text) → Outcome) where
  abbrev value : Expression → Outcome
  value = evaluated variable call

  abbrev shape_value : Shape → Outcome
  shape_value = shape_evaluated variable call

  -- what the level of an expression comes to, where its parts come to their values
  abbrev pub layer_value : Shape-F Shape Expression → Outcome
  layer_value layer = value_layer variable call (map-Shape Shape Expression Outcome Outcome shape_value value layer)

  -- an expression comes to what its shape does
  pub value_out : (e : Expression) → value e ≡ shape_value (out-Expression e).shape
  unfolding evaluated shape_evaluated
  value_out e = fold_out-Expression Outcome Outcome (value_layer variable call) expression_layer e

  pub value_roll : (layer : Shape-F Shape Expression) → shape_value (roll-Shape layer) ≡ layer_value layer
  unfolding evaluated shape_evaluated
  value_roll layer = fold-roll-Shape Outcome Outcome (value_layer variable call) expression_layer layer

  value_at : (layer : Shape-F Shape Expression) {s : Shape} → roll-Shape layer ≡ s → shape_value s ≡ layer_value layer
  value_at layer rolls = ap shape_value (sym rolls) ∙ value_roll layer

  pub value_of-And : (lhs rhs : Expression) → shape_value (shape.And lhs rhs) ≡ None
  value_of-And lhs rhs = value_at (Shape-F.And lhs rhs) (shape.rolls-And lhs rhs)

  pub value_of-Assert : (condition : Expression) (message : Option Expression) → shape_value (shape.Assert condition message) ≡ None
  value_of-Assert condition message = value_at (Shape-F.Assert condition message) (shape.rolls-Assert condition message)

  pub value_of-Backtick : (contents : Text) → shape_value (shape.Backtick contents) ≡ None
  value_of-Backtick contents = value_at (Shape-F.Backtick contents) (shape.rolls-Backtick contents)

  pub value_of-Call : (name : Name) (arguments : List Expression) → shape_value (shape.Call name arguments) ≡ option_and_then (call (text_of_name name)) (all_of (map value arguments))
  value_of-Call name arguments = value_at (Shape-F.Call name arguments) (shape.rolls-Call name arguments)

  pub value_of-Comparison : (operator : ConditionalOperator) (lhs rhs : Expression) → shape_value (shape.Comparison operator lhs rhs) ≡ None
  value_of-Comparison operator lhs rhs = value_at (Shape-F.Comparison operator lhs rhs) (shape.rolls-Comparison operator lhs rhs)

  pub value_of-Concatenation : (lhs rhs : Expression) → shape_value (shape.Concatenation lhs rhs) ≡ option_and_then (λ left. option_map (put_together left) (value rhs)) (value lhs)
  value_of-Concatenation lhs rhs = value_at (Shape-F.Concatenation lhs rhs) (shape.rolls-Concatenation lhs rhs)

  pub value_of-Conditional : (condition then : Expression) (otherwise : Option Expression) → shape_value (shape.Conditional condition then otherwise) ≡ None
  value_of-Conditional condition then otherwise = value_at (Shape-F.Conditional condition then otherwise) (shape.rolls-Conditional condition then otherwise)

  pub value_of-FormatString : (texts : List Text) (expressions : List Expression) → shape_value (shape.FormatString texts expressions) ≡ None
  value_of-FormatString texts expressions = value_at (Shape-F.FormatString texts expressions) (shape.rolls-FormatString texts expressions)

  pub value_of-Group : (contents : Expression) → shape_value (shape.Group contents) ≡ value contents
  value_of-Group contents = value_at (Shape-F.Group contents) (shape.rolls-Group contents)

  pub value_of-Join : (lhs : Option Expression) (rhs : Expression) → shape_value (shape.Join lhs rhs) ≡ None
  value_of-Join lhs rhs = value_at (Shape-F.Join lhs rhs) (shape.rolls-Join lhs rhs)

  pub value_of-List : (elements : List Expression) → shape_value (shape.List elements) ≡ option_map one_after_another (all_of (map value elements))
  value_of-List elements = value_at (Shape-F.List elements) (shape.rolls-List elements)

  pub value_of-ListConcatenation : (lhs rhs : Expression) → shape_value (shape.ListConcatenation lhs rhs) ≡ None
  value_of-ListConcatenation lhs rhs = value_at (Shape-F.ListConcatenation lhs rhs) (shape.rolls-ListConcatenation lhs rhs)

  pub value_of-Not : (operand : Expression) → shape_value (shape.Not operand) ≡ None
  value_of-Not operand = value_at (Shape-F.Not operand) (shape.rolls-Not operand)

  pub value_of-Or : (lhs rhs : Expression) → shape_value (shape.Or lhs rhs) ≡ None
  value_of-Or lhs rhs = value_at (Shape-F.Or lhs rhs) (shape.rolls-Or lhs rhs)

  pub value_of-StringLiteral : (cooked : Text) → shape_value (shape.StringLiteral cooked) ≡ Some (cooked ∷ [])
  value_of-StringLiteral cooked = value_at (Shape-F.StringLiteral cooked) (shape.rolls-StringLiteral cooked)

  pub value_of-Variable : (name : Name) (number : Option Number) → shape_value (shape.Variable name number) ≡ variable (text_of_name name)
  value_of-Variable name number = value_at (Shape-F.Variable name number) (shape.rolls-Variable name number)

pub ruleset valueless = (
  value_of-And,
  value_of-Assert,
  value_of-Backtick,
  value_of-Comparison,
  value_of-Conditional,
  value_of-FormatString,
  value_of-Join,
  value_of-ListConcatenation,
  value_of-Not,
  value_of-Or,
)
