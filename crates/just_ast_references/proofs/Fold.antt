-- The one equation of the recursion over parts, and of the references that are made by it.
use Rattle.std.proofs.Common.{◌≡◌, sym, ◌∙◌, ap, List, ◌++◌, map}
use Rattle.std.specs.List.{flat_map}
use Rattle.std.proofs.lemmas.List.Folds.{flat_map-map}
use Rattle.just_ast_expressions.specs.declared.expression.Expression.{Expression, out-Expression, fold-Expression, fold_out-Expression}
use Rattle.just_ast_expressions.specs.declared.expression.Shape.{Shape, out-Shape, roll-Shape, roll-out-Shape, fold-Shape, fold-roll-Shape}
use Rattle.just_ast_expressions.specs.declared.expression.Shape.TheOpen.{Shape-F}
use Rattle.just_ast_expressions.specs.Parts.{layer_parts, parts, shape_parts}
use Rattle.just_ast_references.specs.References.{layer_mention, shape_mention, mention, shape_step, expression_step, over_parts, references}
use Rattle.just_ast_references.specs.declared.references.Reference.{Reference}
use Rattle.just_ast_expressions.proofs.Layers.{parts_map}
use Rattle.just_ast_references.proofs.Layers.{mention_map}

module _ {A : Type 0} (combine : List Reference → List A → A) where
  abbrev of_shape : Shape → A
  of_shape = fold-Shape A A (shape_step combine) (expression_step combine)

  abbrev of_expression : Expression → A
  of_expression = fold-Expression A A (shape_step combine) (expression_step combine)

  -- at one level
  over_layer : (s : Shape-F Shape Expression) → of_shape (roll-Shape s) ≡ combine (layer_mention s) (map of_expression (layer_parts s))
  over_layer s = fold-roll-Shape A A (shape_step combine) (expression_step combine) s
      ∙ (λ i. combine (mention_map of_shape of_expression s i) (parts_map of_shape of_expression s i))

  -- an expression comes to what its mention and the results of its parts come to
  pub over_parts_are : (e : Expression) → over_parts combine e ≡ combine (mention e) (map (over_parts combine) (parts e))
  unfolding over_parts shape_mention shape_parts
  over_parts_are e = fold_out-Expression A A (shape_step combine) (expression_step combine) e
      ∙ ap of_shape (sym (roll-out-Shape (out-Expression e).shape))
      ∙ over_layer (out-Shape (out-Expression e).shape)

-- its references are what it mentions itself, and then those of its parts
pub references_are : (e : Expression) → references e ≡ mention e ++ flat_map references (parts e)
references_are e =
    over_parts_are (λ own results. own ++ flat_map (λ r. r) results) e
    ∙ ap (λ rest. mention e ++ rest) (flat_map-map (λ r. r) references (parts e))
