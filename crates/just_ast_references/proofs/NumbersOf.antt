-- What each shape comes to where its variables are given numbers.
use Rattle.std.proofs.Common.{◌≡◌, sym, ◌∙◌, ap, ℕ, List, map, Option, None, Some}
use Rattle.std.specs.Option.{option_map}
use Rattle.just_names.specs.Name.{text_of_name}
use Rattle.just_names.specs.declared.name.Name.{Name}
use Rattle.just_names.specs.declared.number.Number.{Number}
use Rattle.just_ast_expressions.specs.declared.expression.ConditionalOperator.{ConditionalOperator}
use Rattle.just_ast_expressions.specs.declared.expression.Expression.{Expression, out-Expression, roll-Expression, fold_out-Expression}
use Rattle.just_ast_expressions.specs.declared.expression.Shape.{Shape, roll-Shape, fold-roll-Shape, map-Shape}
use Rattle.just_ast_expressions.specs.declared.expression.Shape.TheOpen.{Shape-F}
use Rattle.just_ast_expressions.specs.declared.expression.Shape.TheVariants as shape
use Rattle.just_ast_references.specs.Numbers.{numbered_layer, shape_numbered, with_numbers}
use Rattle.just_ast_references.specs.loops.Numbers.{shape_with_numbers}

module _ (number_of : List ℕ → Option Number) where
  abbrev given : Expression → Expression
  given = with_numbers number_of

  abbrev given_shape : Shape → Shape
  given_shape = shape_with_numbers number_of

  -- one level, whose parts and whose own variable are given numbers
  abbrev pub given_layer : Shape-F Shape Expression → Shape-F Shape Expression
  given_layer layer = numbered_layer number_of (map-Shape Shape Expression Shape Expression given_shape given layer)

  -- the text of an expression stays
  pub numbers_out : (e : Expression) → given e ≡ roll-Expression (record { shape = given_shape (out-Expression e).shape; text = (out-Expression e).text })
  unfolding with_numbers shape_with_numbers
  numbers_out e = fold_out-Expression Shape Expression (shape_numbered number_of) roll-Expression e

  pub numbers_roll : (layer : Shape-F Shape Expression) → given_shape (roll-Shape layer) ≡ roll-Shape (given_layer layer)
  unfolding with_numbers shape_with_numbers
  numbers_roll layer = fold-roll-Shape Shape Expression (shape_numbered number_of) roll-Expression layer

  numbers_at : (layer : Shape-F Shape Expression) {s t : Shape} → roll-Shape layer ≡ s → roll-Shape (given_layer layer) ≡ t → given_shape s ≡ t
  numbers_at layer rolls rolls_given = ap given_shape (sym rolls) ∙ numbers_roll layer ∙ rolls_given

  pub numbers_of-And : (lhs rhs : Expression) → given_shape (shape.And lhs rhs) ≡ shape.And (given lhs) (given rhs)
  numbers_of-And lhs rhs = numbers_at (Shape-F.And lhs rhs) (shape.rolls-And lhs rhs) (shape.rolls-And (given lhs) (given rhs))

  pub numbers_of-Assert : (condition : Expression) (message : Option Expression) →
      given_shape (shape.Assert condition message) ≡ shape.Assert (given condition) (option_map given message)
  numbers_of-Assert condition None =
      numbers_at (Shape-F.Assert condition None) (shape.rolls-Assert condition None) (shape.rolls-Assert (given condition) None)
  numbers_of-Assert condition (Some message) =
      numbers_at (Shape-F.Assert condition (Some message)) (shape.rolls-Assert condition (Some message)) (shape.rolls-Assert (given condition) (Some (given message)))

  pub numbers_of-Backtick : (contents : List ℕ) → given_shape (shape.Backtick contents) ≡ shape.Backtick contents
  numbers_of-Backtick contents = numbers_at (Shape-F.Backtick contents) (shape.rolls-Backtick contents) (shape.rolls-Backtick contents)

  pub numbers_of-Call : (name : Name) (arguments : List Expression) → given_shape (shape.Call name arguments) ≡ shape.Call name (map given arguments)
  numbers_of-Call name arguments =
      numbers_at (Shape-F.Call name arguments) (shape.rolls-Call name arguments) (shape.rolls-Call name (map given arguments))

  pub numbers_of-Comparison : (operator : ConditionalOperator) (lhs rhs : Expression) →
      given_shape (shape.Comparison operator lhs rhs) ≡ shape.Comparison operator (given lhs) (given rhs)
  numbers_of-Comparison operator lhs rhs =
      numbers_at (Shape-F.Comparison operator lhs rhs) (shape.rolls-Comparison operator lhs rhs) (shape.rolls-Comparison operator (given lhs) (given rhs))

  pub numbers_of-Concatenation : (lhs rhs : Expression) → given_shape (shape.Concatenation lhs rhs) ≡ shape.Concatenation (given lhs) (given rhs)
  numbers_of-Concatenation lhs rhs =
      numbers_at (Shape-F.Concatenation lhs rhs) (shape.rolls-Concatenation lhs rhs) (shape.rolls-Concatenation (given lhs) (given rhs))

  pub numbers_of-Conditional : (condition then : Expression) (otherwise : Option Expression) →
      given_shape (shape.Conditional condition then otherwise) ≡ shape.Conditional (given condition) (given then) (option_map given otherwise)
  numbers_of-Conditional condition then None =
      numbers_at (Shape-F.Conditional condition then None) (shape.rolls-Conditional condition then None) (shape.rolls-Conditional (given condition) (given then) None)
  numbers_of-Conditional condition then (Some otherwise) =
      numbers_at (Shape-F.Conditional condition then (Some otherwise)) (shape.rolls-Conditional condition then (Some otherwise)) (shape.rolls-Conditional (given condition) (given then) (Some (given otherwise)))

  pub numbers_of-FormatString : (texts : List (List ℕ)) (expressions : List Expression) →
      given_shape (shape.FormatString texts expressions) ≡ shape.FormatString texts (map given expressions)
  numbers_of-FormatString texts expressions =
      numbers_at (Shape-F.FormatString texts expressions) (shape.rolls-FormatString texts expressions) (shape.rolls-FormatString texts (map given expressions))

  pub numbers_of-Group : (contents : Expression) → given_shape (shape.Group contents) ≡ shape.Group (given contents)
  numbers_of-Group contents = numbers_at (Shape-F.Group contents) (shape.rolls-Group contents) (shape.rolls-Group (given contents))

  pub numbers_of-Join : (lhs : Option Expression) (rhs : Expression) →
      given_shape (shape.Join lhs rhs) ≡ shape.Join (option_map given lhs) (given rhs)
  numbers_of-Join None rhs = numbers_at (Shape-F.Join None rhs) (shape.rolls-Join None rhs) (shape.rolls-Join None (given rhs))
  numbers_of-Join (Some lhs) rhs =
      numbers_at (Shape-F.Join (Some lhs) rhs) (shape.rolls-Join (Some lhs) rhs) (shape.rolls-Join (Some (given lhs)) (given rhs))

  pub numbers_of-List : (elements : List Expression) → given_shape (shape.List elements) ≡ shape.List (map given elements)
  numbers_of-List elements = numbers_at (Shape-F.List elements) (shape.rolls-List elements) (shape.rolls-List (map given elements))

  pub numbers_of-ListConcatenation : (lhs rhs : Expression) →
      given_shape (shape.ListConcatenation lhs rhs) ≡ shape.ListConcatenation (given lhs) (given rhs)
  numbers_of-ListConcatenation lhs rhs =
      numbers_at (Shape-F.ListConcatenation lhs rhs) (shape.rolls-ListConcatenation lhs rhs) (shape.rolls-ListConcatenation (given lhs) (given rhs))

  pub numbers_of-Not : (operand : Expression) → given_shape (shape.Not operand) ≡ shape.Not (given operand)
  numbers_of-Not operand = numbers_at (Shape-F.Not operand) (shape.rolls-Not operand) (shape.rolls-Not (given operand))

  pub numbers_of-Or : (lhs rhs : Expression) → given_shape (shape.Or lhs rhs) ≡ shape.Or (given lhs) (given rhs)
  numbers_of-Or lhs rhs = numbers_at (Shape-F.Or lhs rhs) (shape.rolls-Or lhs rhs) (shape.rolls-Or (given lhs) (given rhs))

  pub numbers_of-StringLiteral : (cooked : List ℕ) → given_shape (shape.StringLiteral cooked) ≡ shape.StringLiteral cooked
  numbers_of-StringLiteral cooked = numbers_at (Shape-F.StringLiteral cooked) (shape.rolls-StringLiteral cooked) (shape.rolls-StringLiteral cooked)

  pub numbers_of-Variable : (name : Name) (number : Option Number) →
      given_shape (shape.Variable name number) ≡ shape.Variable name (number_of (text_of_name name))
  numbers_of-Variable name number =
      numbers_at (Shape-F.Variable name number) (shape.rolls-Variable name number) (shape.rolls-Variable name (number_of (text_of_name name)))
