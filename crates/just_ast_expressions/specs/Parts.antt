-- The parts of an expression, in the order of the text.
use Rattle.std.specs.Prelude.{List, [], ◌∷◌, ◌++◌}
use Rattle.std.specs.Option.{option_to_list}
use Rattle.just_ast_expressions.specs.declared.expression.Expression.{Expression, out-Expression}
use Rattle.just_ast_expressions.specs.declared.expression.Shape.{Shape, out-Shape}
use Rattle.just_ast_expressions.specs.declared.expression.Shape.TheOpen.{Shape-F}

-- the parts that one level has, whatever stands for them
abbrev pub layer_parts : {A B : Type 0} → Shape-F A B → List B
layer_parts (Shape-F.And lhs rhs) = lhs ∷ rhs ∷ []
layer_parts (Shape-F.Assert condition message) = condition ∷ option_to_list message
layer_parts (Shape-F.Backtick contents) = []
layer_parts (Shape-F.Call name arguments) = arguments
layer_parts (Shape-F.Comparison operator lhs rhs) = lhs ∷ rhs ∷ []
layer_parts (Shape-F.Concatenation lhs rhs) = lhs ∷ rhs ∷ []
layer_parts (Shape-F.Conditional condition then otherwise) = condition ∷ then ∷ option_to_list otherwise
layer_parts (Shape-F.FormatString texts expressions) = expressions
layer_parts (Shape-F.Group contents) = contents ∷ []
layer_parts (Shape-F.Join lhs rhs) = option_to_list lhs ++ rhs ∷ []
layer_parts (Shape-F.List elements) = elements
layer_parts (Shape-F.ListConcatenation lhs rhs) = lhs ∷ rhs ∷ []
layer_parts (Shape-F.Not operand) = operand ∷ []
layer_parts (Shape-F.Or lhs rhs) = lhs ∷ rhs ∷ []
layer_parts (Shape-F.StringLiteral cooked) = []
layer_parts (Shape-F.Variable name number) = []

unfoldable pub shape_parts : Shape → List Expression
shape_parts shape = layer_parts (out-Shape shape)

abbrev pub parts : Expression → List Expression
parts expression = shape_parts (out-Expression expression).shape
