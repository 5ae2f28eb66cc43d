-- What each shape refers to itself.
use Rattle.std.proofs.Common.{◌≡◌, sym, ◌∙◌, ap, ℕ, List, [], ◌∷◌, length, Option}
use Rattle.just_names.specs.declared.name.Name.{Name}
use Rattle.just_names.specs.declared.number.Number.{Number}
use Rattle.just_ast_expressions.specs.declared.expression.ConditionalOperator.{ConditionalOperator}
use Rattle.just_ast_expressions.specs.declared.expression.Expression.{Expression}
use Rattle.just_ast_expressions.specs.declared.expression.Shape.{Shape, roll-Shape, out-roll-Shape}
use Rattle.just_ast_expressions.specs.declared.expression.Shape.TheOpen.{Shape-F}
use Rattle.just_ast_expressions.specs.declared.expression.Shape.TheVariants as shape
use Rattle.just_ast_references.specs.References.{layer_mention, shape_mention}
use Rattle.just_ast_references.specs.declared.references.Reference.TheVariants as reference

-- what its level does
mention_at : (layer : Shape-F Shape Expression) {s : Shape} → roll-Shape layer ≡ s → shape_mention s ≡ layer_mention layer
unfolding shape_mention
mention_at layer rolls = ap shape_mention (sym rolls) ∙ ap layer_mention (out-roll-Shape layer)

pub mention_of-And : (lhs rhs : Expression) → shape_mention (shape.And lhs rhs) ≡ []
mention_of-And lhs rhs = mention_at (Shape-F.And lhs rhs) (shape.rolls-And lhs rhs)

pub mention_of-Assert : (condition : Expression) (message : Option Expression) → shape_mention (shape.Assert condition message) ≡ []
mention_of-Assert condition message = mention_at (Shape-F.Assert condition message) (shape.rolls-Assert condition message)

pub mention_of-Backtick : (contents : List ℕ) → shape_mention (shape.Backtick contents) ≡ []
mention_of-Backtick contents = mention_at (Shape-F.Backtick contents) (shape.rolls-Backtick contents)

pub mention_of-Call : (name : Name) (arguments : List Expression) → shape_mention (shape.Call name arguments) ≡ reference.Call name (length arguments) ∷ []
mention_of-Call name arguments = mention_at (Shape-F.Call name arguments) (shape.rolls-Call name arguments)

pub mention_of-Comparison : (operator : ConditionalOperator) (lhs rhs : Expression) → shape_mention (shape.Comparison operator lhs rhs) ≡ []
mention_of-Comparison operator lhs rhs = mention_at (Shape-F.Comparison operator lhs rhs) (shape.rolls-Comparison operator lhs rhs)

pub mention_of-Concatenation : (lhs rhs : Expression) → shape_mention (shape.Concatenation lhs rhs) ≡ []
mention_of-Concatenation lhs rhs = mention_at (Shape-F.Concatenation lhs rhs) (shape.rolls-Concatenation lhs rhs)

pub mention_of-Conditional : (condition then : Expression) (otherwise : Option Expression) → shape_mention (shape.Conditional condition then otherwise) ≡ []
mention_of-Conditional condition then otherwise = mention_at (Shape-F.Conditional condition then otherwise) (shape.rolls-Conditional condition then otherwise)

pub mention_of-FormatString : (texts : List (List ℕ)) (expressions : List Expression) → shape_mention (shape.FormatString texts expressions) ≡ []
mention_of-FormatString texts expressions = mention_at (Shape-F.FormatString texts expressions) (shape.rolls-FormatString texts expressions)

pub mention_of-Group : (contents : Expression) → shape_mention (shape.Group contents) ≡ []
mention_of-Group contents = mention_at (Shape-F.Group contents) (shape.rolls-Group contents)

pub mention_of-Join : (lhs : Option Expression) (rhs : Expression) → shape_mention (shape.Join lhs rhs) ≡ []
mention_of-Join lhs rhs = mention_at (Shape-F.Join lhs rhs) (shape.rolls-Join lhs rhs)

pub mention_of-List : (elements : List Expression) → shape_mention (shape.List elements) ≡ []
mention_of-List elements = mention_at (Shape-F.List elements) (shape.rolls-List elements)

pub mention_of-ListConcatenation : (lhs rhs : Expression) → shape_mention (shape.ListConcatenation lhs rhs) ≡ []
mention_of-ListConcatenation lhs rhs = mention_at (Shape-F.ListConcatenation lhs rhs) (shape.rolls-ListConcatenation lhs rhs)

pub mention_of-Not : (operand : Expression) → shape_mention (shape.Not operand) ≡ []
mention_of-Not operand = mention_at (Shape-F.Not operand) (shape.rolls-Not operand)

pub mention_of-Or : (lhs rhs : Expression) → shape_mention (shape.Or lhs rhs) ≡ []
mention_of-Or lhs rhs = mention_at (Shape-F.Or lhs rhs) (shape.rolls-Or lhs rhs)

pub mention_of-StringLiteral : (cooked : List ℕ) → shape_mention (shape.StringLiteral cooked) ≡ []
mention_of-StringLiteral cooked = mention_at (Shape-F.StringLiteral cooked) (shape.rolls-StringLiteral cooked)

pub mention_of-Variable : (name : Name) (number : Option Number) → shape_mention (shape.Variable name number) ≡ reference.Variable name ∷ []
mention_of-Variable name number = mention_at (Shape-F.Variable name number) (shape.rolls-Variable name number)

pub ruleset mentions = (
  mention_of-And,
  mention_of-Assert,
  mention_of-Backtick,
  mention_of-Call,
  mention_of-Comparison,
  mention_of-Concatenation,
  mention_of-Conditional,
  mention_of-FormatString,
  mention_of-Group,
  mention_of-Join,
  mention_of-List,
  mention_of-ListConcatenation,
  mention_of-Not,
  mention_of-Or,
  mention_of-StringLiteral,
  mention_of-Variable,
)
