-- The program that a list is.
use Rattle.std.proofs.Common.{◌≡◌, sym, ◌∙◌, ap, refl, List, None}
use Rattle.just_ast_expressions.specs.declared.expression.Expression.{Expression}
use Rattle.just_ast_expressions.specs.declared.expression.Shape.{Shape, out-Shape, roll-Shape, out-roll-Shape, roll-out-Shape}
use Rattle.just_ast_expressions.specs.declared.expression.Shape.TheOpen.{Shape-F}
use Rattle.just_ast_expressions.specs.declared.expression.Shape.TheVariants as shape
use Rattle.just_bench_lines.specs.Definitions.{listed, listed_layer, program_of}

-- a list is its elements
pub list_listed : (elements : List Expression) → listed (shape.List elements) ≡ program_of elements
unfolding listed
list_listed elements = ap listed (sym (shape.rolls-List elements)) ∙ ap listed_layer (out-roll-Shape (Shape-F.List elements))

-- what is no list is none
layer_unlisted : (s : Shape) (layer : Shape-F Shape Expression) → roll-Shape layer ≡ s → ((elements : List Expression) → s ≡ shape.List elements → ⊥) → listed_layer layer ≡ None
layer_unlisted s (Shape-F.List elements) rolls other = absurd (other elements (sym rolls ∙ shape.rolls-List elements))
layer_unlisted s _ rolls other = refl

pub other_unlisted : (s : Shape) → ((elements : List Expression) → s ≡ shape.List elements → ⊥) → listed s ≡ None
unfolding listed
other_unlisted s other = layer_unlisted s (out-Shape s) (roll-out-Shape s) other
