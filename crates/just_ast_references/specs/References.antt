-- What an expression refers to.
use Rattle.std.specs.Prelude.{◌≡◌, List, [], ◌∷◌, ◌++◌, length}
use Rattle.std.specs.List.{flat_map}
use Rattle.just_ast_expressions.specs.declared.expression.Expression.{Expression, out-Expression, fold-Expression}
use Rattle.just_ast_expressions.specs.declared.expression.Shape.{Shape, out-Shape}
use Rattle.just_ast_expressions.specs.declared.expression.Shape.TheOpen.{Shape-F, Expression-F}
use Rattle.just_ast_expressions.specs.Parts.{layer_parts}
use Rattle.just_ast_references.specs.declared.references.Reference.{Reference}
use Rattle.just_ast_references.specs.declared.references.Reference.TheVariants as reference

-- what one level refers to itself, its parts aside
abbrev pub layer_mention : {A B : Type 0} → Shape-F A B → List Reference
layer_mention (Shape-F.And lhs rhs) = []
layer_mention (Shape-F.Assert condition message) = []
layer_mention (Shape-F.Backtick contents) = []
layer_mention (Shape-F.Call name arguments) = reference.Call name (length arguments) ∷ []
layer_mention (Shape-F.Comparison operator lhs rhs) = []
layer_mention (Shape-F.Concatenation lhs rhs) = []
layer_mention (Shape-F.Conditional condition then otherwise) = []
layer_mention (Shape-F.FormatString texts expressions) = []
layer_mention (Shape-F.Group contents) = []
layer_mention (Shape-F.Join lhs rhs) = []
layer_mention (Shape-F.List elements) = []
layer_mention (Shape-F.ListConcatenation lhs rhs) = []
layer_mention (Shape-F.Not operand) = []
layer_mention (Shape-F.Or lhs rhs) = []
layer_mention (Shape-F.StringLiteral cooked) = []
layer_mention (Shape-F.Variable name number) = reference.Variable name ∷ []

unfoldable pub shape_mention : Shape → List Reference
shape_mention shape = layer_mention (out-Shape shape)

-- the call or the variable that an expression is, or none
abbrev pub mention : Expression → List Reference
mention expression = shape_mention (out-Expression expression).shape

-- it is a call or a variable
abbrev pub IsReference : Expression → Type 0
IsReference expression = length (mention expression) ≡ 1

-- The one recursion over parts: an expression that is the mention `own`, and whose parts come to `results`, comes to
-- `combine own results`.
module _ {A : Type 0} (combine : List Reference → List A → A) where
  abbrev pub shape_step : Shape-F A A → A
  shape_step shape = combine (layer_mention shape) (layer_parts shape)

  abbrev pub expression_step : Expression-F A A → A
  expression_step expression = expression.shape

  unfoldable pub over_parts : Expression → A
  over_parts = fold-Expression A A shape_step expression_step

-- the calls and variables in an expression, from left to right, a call before its arguments
abbrev pub references : Expression → List Reference
references = over_parts (λ own results. own ++ flat_map (λ r. r) results)
