-- The parts of each shape.
use Rattle.std.proofs.Common.{◌≡◌, sym, ◌∙◌, ap, ℕ, List, [], ◌∷◌, ◌++◌, Option}
use Rattle.std.specs.Option.{option_to_list}
use Rattle.just_names.specs.declared.name.Name.{Name}
use Rattle.just_names.specs.declared.number.Number.{Number}
use Rattle.just_ast_expressions.specs.declared.expression.ConditionalOperator.{ConditionalOperator}
use Rattle.just_ast_expressions.specs.declared.expression.Expression.{Expression}
use Rattle.just_ast_expressions.specs.declared.expression.Shape.{Shape, roll-Shape, out-roll-Shape}
use Rattle.just_ast_expressions.specs.declared.expression.Shape.TheOpen.{Shape-F}
use Rattle.just_ast_expressions.specs.declared.expression.Shape.TheVariants as shape
use Rattle.just_ast_expressions.specs.Parts.{layer_parts, shape_parts}

-- those of its level
parts_at : (layer : Shape-F Shape Expression) {s : Shape} → roll-Shape layer ≡ s → shape_parts s ≡ layer_parts layer
unfolding shape_parts
parts_at layer rolls = ap shape_parts (sym rolls) ∙ ap layer_parts (out-roll-Shape layer)

pub parts_of-And : (lhs rhs : Expression) → shape_parts (shape.And lhs rhs) ≡ lhs ∷ rhs ∷ []
parts_of-And lhs rhs = parts_at (Shape-F.And lhs rhs) (shape.rolls-And lhs rhs)

pub parts_of-Assert : (condition : Expression) (message : Option Expression) → shape_parts (shape.Assert condition message) ≡ condition ∷ option_to_list message
parts_of-Assert condition message = parts_at (Shape-F.Assert condition message) (shape.rolls-Assert condition message)

pub parts_of-Backtick : (contents : List ℕ) → shape_parts (shape.Backtick contents) ≡ []
parts_of-Backtick contents = parts_at (Shape-F.Backtick contents) (shape.rolls-Backtick contents)

pub parts_of-Call : (name : Name) (arguments : List Expression) → shape_parts (shape.Call name arguments) ≡ arguments
parts_of-Call name arguments = parts_at (Shape-F.Call name arguments) (shape.rolls-Call name arguments)

pub parts_of-Comparison : (operator : ConditionalOperator) (lhs rhs : Expression) → shape_parts (shape.Comparison operator lhs rhs) ≡ lhs ∷ rhs ∷ []
parts_of-Comparison operator lhs rhs = parts_at (Shape-F.Comparison operator lhs rhs) (shape.rolls-Comparison operator lhs rhs)

pub parts_of-Concatenation : (lhs rhs : Expression) → shape_parts (shape.Concatenation lhs rhs) ≡ lhs ∷ rhs ∷ []
parts_of-Concatenation lhs rhs = parts_at (Shape-F.Concatenation lhs rhs) (shape.rolls-Concatenation lhs rhs)

pub parts_of-Conditional : (condition then : Expression) (otherwise : Option Expression) → shape_parts (shape.Conditional condition then otherwise) ≡ condition ∷ then ∷ option_to_list otherwise
parts_of-Conditional condition then otherwise = parts_at (Shape-F.Conditional condition then otherwise) (shape.rolls-Conditional condition then otherwise)

pub parts_of-FormatString : (texts : List (List ℕ)) (expressions : List Expression) → shape_parts (shape.FormatString texts expressions) ≡ expressions
parts_of-FormatString texts expressions = parts_at (Shape-F.FormatString texts expressions) (shape.rolls-FormatString texts expressions)

pub parts_of-Group : (contents : Expression) → shape_parts (shape.Group contents) ≡ contents ∷ []
parts_of-Group contents = parts_at (Shape-F.Group contents) (shape.rolls-Group contents)

pub parts_of-Join : (lhs : Option Expression) (rhs : Expression) → shape_parts (shape.Join lhs rhs) ≡ option_to_list lhs ++ rhs ∷ []
parts_of-Join lhs rhs = parts_at (Shape-F.Join lhs rhs) (shape.rolls-Join lhs rhs)

pub parts_of-List : (elements : List Expression) → shape_parts (shape.List elements) ≡ elements
parts_of-List elements = parts_at (Shape-F.List elements) (shape.rolls-List elements)

pub parts_of-ListConcatenation : (lhs rhs : Expression) → shape_parts (shape.ListConcatenation lhs rhs) ≡ lhs ∷ rhs ∷ []
parts_of-ListConcatenation lhs rhs = parts_at (Shape-F.ListConcatenation lhs rhs) (shape.rolls-ListConcatenation lhs rhs)

pub parts_of-Not : (operand : Expression) → shape_parts (shape.Not operand) ≡ operand ∷ []
parts_of-Not operand = parts_at (Shape-F.Not operand) (shape.rolls-Not operand)

pub parts_of-Or : (lhs rhs : Expression) → shape_parts (shape.Or lhs rhs) ≡ lhs ∷ rhs ∷ []
parts_of-Or lhs rhs = parts_at (Shape-F.Or lhs rhs) (shape.rolls-Or lhs rhs)

pub parts_of-StringLiteral : (cooked : List ℕ) → shape_parts (shape.StringLiteral cooked) ≡ []
parts_of-StringLiteral cooked = parts_at (Shape-F.StringLiteral cooked) (shape.rolls-StringLiteral cooked)

pub parts_of-Variable : (name : Name) (number : Option Number) → shape_parts (shape.Variable name number) ≡ []
parts_of-Variable name number = parts_at (Shape-F.Variable name number) (shape.rolls-Variable name number)

pub ruleset shapes = (
  parts_of-And,
  parts_of-Assert,
  parts_of-Backtick,
  parts_of-Call,
  parts_of-Comparison,
  parts_of-Concatenation,
  parts_of-Conditional,
  parts_of-FormatString,
  parts_of-Group,
  parts_of-Join,
  parts_of-List,
  parts_of-ListConcatenation,
  parts_of-Not,
  parts_of-Or,
  parts_of-StringLiteral,
  parts_of-Variable,
)
