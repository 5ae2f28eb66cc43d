-- What a level keeps where others stand for its parts.
use Rattle.std.proofs.Common.{◌≡◌, refl, ap, ◌∷◌, []}
use Rattle.std.proofs.lemmas.List.{length-map}
use Rattle.just_ast_expressions.specs.declared.expression.Shape.{map-Shape}
use Rattle.just_ast_expressions.specs.declared.expression.Shape.TheOpen.{Shape-F}
use Rattle.just_ast_references.specs.References.{layer_mention}
use Rattle.just_ast_references.specs.declared.references.Reference.TheVariants as reference

module _ {A B C D : Type 0} (f : A → C) (g : B → D) where
  -- its mention stays
  pub mention_map : (s : Shape-F A B) → layer_mention (map-Shape A B C D f g s) ≡ layer_mention s
  mention_map (Shape-F.And lhs rhs) = refl
  mention_map (Shape-F.Assert condition message) = refl
  mention_map (Shape-F.Backtick contents) = refl
  mention_map (Shape-F.Call name arguments) = ap (λ count. reference.Call name count ∷ []) (length-map arguments g)
  mention_map (Shape-F.Comparison operator lhs rhs) = refl
  mention_map (Shape-F.Concatenation lhs rhs) = refl
  mention_map (Shape-F.Conditional condition then otherwise) = refl
  mention_map (Shape-F.FormatString texts expressions) = refl
  mention_map (Shape-F.Group contents) = refl
  mention_map (Shape-F.Join lhs rhs) = refl
  mention_map (Shape-F.List elements) = refl
  mention_map (Shape-F.ListConcatenation lhs rhs) = refl
  mention_map (Shape-F.Not operand) = refl
  mention_map (Shape-F.Or lhs rhs) = refl
  mention_map (Shape-F.StringLiteral cooked) = refl
  mention_map (Shape-F.Variable name number) = refl
