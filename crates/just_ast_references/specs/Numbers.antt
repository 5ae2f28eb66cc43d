-- Expressions with other numbers.
use Rattle.std.specs.Prelude.{ℕ, List, Option, None}
use Rattle.just_names.specs.Name.{text_of_name}
use Rattle.just_names.specs.declared.number.Number.{Number}
use Rattle.just_ast_expressions.specs.declared.expression.Expression.{Expression, fold-Expression, roll-Expression}
use Rattle.just_ast_expressions.specs.declared.expression.Shape.{Shape, roll-Shape}
use Rattle.just_ast_expressions.specs.declared.expression.Shape.TheOpen.{Shape-F}

-- one level, where a variable has the number that its name is given
abbrev pub numbered_layer : {A B : Type 0} → (List ℕ → Option Number) → Shape-F A B → Shape-F A B
numbered_layer number_of (Shape-F.Variable name number) = Shape-F.Variable name (number_of (text_of_name name))
numbered_layer number_of shape = shape

abbrev pub shape_numbered : (List ℕ → Option Number) → Shape-F Shape Expression → Shape
shape_numbered number_of shape = roll-Shape (numbered_layer number_of shape)

-- an expression whose variables have the numbers that their names are given
unfoldable pub with_numbers : (List ℕ → Option Number) → Expression → Expression
with_numbers number_of = fold-Expression Shape Expression (shape_numbered number_of) roll-Expression

-- an expression without numbers
abbrev pub bare : Expression → Expression
bare = with_numbers (λ name. None)
