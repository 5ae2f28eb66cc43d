-- The parts of a level where others stand for them.
use Rattle.std.proofs.Common.{◌≡◌, refl, map, None, Some}
use Rattle.just_ast_expressions.specs.declared.expression.Shape.{map-Shape}
use Rattle.just_ast_expressions.specs.declared.expression.Shape.TheOpen.{Shape-F}
use Rattle.just_ast_expressions.specs.Parts.{layer_parts}

module _ {A B C D : Type 0} (f : A → C) (g : B → D) where
  -- its parts change one by one
  pub parts_map : (s : Shape-F A B) → layer_parts (map-Shape A B C D f g s) ≡ map g (layer_parts s)
  parts_map (Shape-F.And lhs rhs) = refl
  parts_map (Shape-F.Assert condition None) = refl
  parts_map (Shape-F.Assert condition (Some message)) = refl
  parts_map (Shape-F.Backtick contents) = refl
  parts_map (Shape-F.Call name arguments) = refl
  parts_map (Shape-F.Comparison operator lhs rhs) = refl
  parts_map (Shape-F.Concatenation lhs rhs) = refl
  parts_map (Shape-F.Conditional condition then None) = refl
  parts_map (Shape-F.Conditional condition then (Some otherwise)) = refl
  parts_map (Shape-F.FormatString texts expressions) = refl
  parts_map (Shape-F.Group contents) = refl
  parts_map (Shape-F.Join None rhs) = refl
  parts_map (Shape-F.Join (Some lhs) rhs) = refl
  parts_map (Shape-F.List elements) = refl
  parts_map (Shape-F.ListConcatenation lhs rhs) = refl
  parts_map (Shape-F.Not operand) = refl
  parts_map (Shape-F.Or lhs rhs) = refl
  parts_map (Shape-F.StringLiteral cooked) = refl
  parts_map (Shape-F.Variable name number) = refl
