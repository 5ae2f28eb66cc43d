-- What other numbers keep of an expression.
use Rattle.std.proofs.Common.{◌≡◌, refl, sym, ◌∙◌, ap, ℕ, List, [], ◌∷◌, ◌++◌, map, Option, None, Some}
use Rattle.std.specs.List.{flat_map, AllByRecursion}
use Rattle.std.proofs.lemmas.List.Concat.{flat_map-cons}
use Rattle.std.proofs.lemmas.List.Folds.{flat_map-map}
use Rattle.just_names.specs.declared.number.Number.{Number}
use Rattle.just_ast_expressions.specs.declared.expression.Expression.{Expression, out-Expression, roll-Expression, out-roll-Expression}
use Rattle.just_ast_expressions.specs.declared.expression.Shape.{Shape, out-Shape, roll-Shape, out-roll-Shape, roll-out-Shape, map-Shape}
use Rattle.just_ast_expressions.specs.declared.expression.Shape.TheOpen.{Shape-F, Expression-F}
use Rattle.just_ast_references.specs.Numbers.{numbered_layer, with_numbers}
use Rattle.just_ast_references.specs.loops.Numbers.{shape_with_numbers}
use Rattle.just_ast_expressions.specs.Parts.{layer_parts, parts, shape_parts}
use Rattle.just_ast_references.specs.References.{layer_mention, shape_mention, mention, references}
use Rattle.just_ast_references.proofs.Fold.{references_are}
use Rattle.just_ast_references.proofs.Induction.{over_all_parts}
use Rattle.just_ast_expressions.proofs.Layers.{parts_map}
use Rattle.just_ast_references.proofs.Layers.{mention_map}
use Rattle.just_ast_references.proofs.NumbersOf.{given_layer, numbers_out, numbers_roll}

module _ {A B : Type 0} (number_of : List ℕ → Option Number) where
  parts_numbered : (s : Shape-F A B) → layer_parts (numbered_layer number_of s) ≡ layer_parts s
  parts_numbered (Shape-F.And lhs rhs) = refl
  parts_numbered (Shape-F.Assert condition message) = refl
  parts_numbered (Shape-F.Backtick contents) = refl
  parts_numbered (Shape-F.Call name arguments) = refl
  parts_numbered (Shape-F.Comparison operator lhs rhs) = refl
  parts_numbered (Shape-F.Concatenation lhs rhs) = refl
  parts_numbered (Shape-F.Conditional condition then otherwise) = refl
  parts_numbered (Shape-F.FormatString texts expressions) = refl
  parts_numbered (Shape-F.Group contents) = refl
  parts_numbered (Shape-F.Join lhs rhs) = refl
  parts_numbered (Shape-F.List elements) = refl
  parts_numbered (Shape-F.ListConcatenation lhs rhs) = refl
  parts_numbered (Shape-F.Not operand) = refl
  parts_numbered (Shape-F.Or lhs rhs) = refl
  parts_numbered (Shape-F.StringLiteral cooked) = refl
  parts_numbered (Shape-F.Variable name number) = refl

  mention_numbered : (s : Shape-F A B) → layer_mention (numbered_layer number_of s) ≡ layer_mention s
  mention_numbered (Shape-F.And lhs rhs) = refl
  mention_numbered (Shape-F.Assert condition message) = refl
  mention_numbered (Shape-F.Backtick contents) = refl
  mention_numbered (Shape-F.Call name arguments) = refl
  mention_numbered (Shape-F.Comparison operator lhs rhs) = refl
  mention_numbered (Shape-F.Concatenation lhs rhs) = refl
  mention_numbered (Shape-F.Conditional condition then otherwise) = refl
  mention_numbered (Shape-F.FormatString texts expressions) = refl
  mention_numbered (Shape-F.Group contents) = refl
  mention_numbered (Shape-F.Join lhs rhs) = refl
  mention_numbered (Shape-F.List elements) = refl
  mention_numbered (Shape-F.ListConcatenation lhs rhs) = refl
  mention_numbered (Shape-F.Not operand) = refl
  mention_numbered (Shape-F.Or lhs rhs) = refl
  mention_numbered (Shape-F.StringLiteral cooked) = refl
  mention_numbered (Shape-F.Variable name number) = refl

module _ (number_of : List ℕ → Option Number) where
  abbrev parts_given : Shape-F Shape Expression → Shape-F Shape Expression
  parts_given layer = map-Shape Shape Expression Shape Expression (shape_with_numbers number_of) (with_numbers number_of) layer

  -- the first level of an expression with other numbers
  first_level : (e : Expression) →
      out-Shape (out-Expression (with_numbers number_of e)).shape ≡ given_layer number_of (out-Shape (out-Expression e).shape)
  first_level e =
      ap (λ x. out-Shape (out-Expression x).shape) (numbers_out number_of e)
      ∙ ap (λ (x : Expression-F Shape Expression). out-Shape x.shape)
      (out-roll-Expression (record { shape = shape_with_numbers number_of (out-Expression e).shape; text = (out-Expression e).text }))
      ∙ ap (λ s. out-Shape (shape_with_numbers number_of s)) (sym (roll-out-Shape (out-Expression e).shape))
      ∙ ap out-Shape (numbers_roll number_of (out-Shape (out-Expression e).shape))
      ∙ out-roll-Shape (given_layer number_of (out-Shape (out-Expression e).shape))

  pub keeps_parts : (e : Expression) → parts (with_numbers number_of e) ≡ map (with_numbers number_of) (parts e)
  unfolding shape_parts
  keeps_parts e =
      ap layer_parts (first_level e)
      ∙ parts_numbered number_of (parts_given (out-Shape (out-Expression e).shape))
      ∙ parts_map (shape_with_numbers number_of) (with_numbers number_of) (out-Shape (out-Expression e).shape)

  pub keeps_mention : (e : Expression) → mention (with_numbers number_of e) ≡ mention e
  unfolding shape_mention
  keeps_mention e =
      ap layer_mention (first_level e)
      ∙ mention_numbered number_of (parts_given (out-Shape (out-Expression e).shape))
      ∙ mention_map (shape_with_numbers number_of) (with_numbers number_of) (out-Shape (out-Expression e).shape)

  abbrev Same : Expression → Type 0
  Same e = references (with_numbers number_of e) ≡ references e

  same_all : (es : List Expression) → AllByRecursion Same es → flat_map (λ e. references (with_numbers number_of e)) es ≡ flat_map references es
  same_all [] all = refl
  same_all (e ∷ es) all =
      flat_map-cons (λ x. references (with_numbers number_of x)) e es
      ∙ (λ i. all.0 i ++ same_all es all.1 i)
      ∙ sym (flat_map-cons references e es)

  same : (e : Expression) → AllByRecursion Same (parts e) → Same e
  same e all =
      references_are (with_numbers number_of e)
      ∙ (λ i. keeps_mention e i ++ flat_map references (keeps_parts e i))
      ∙ ap (λ rest. mention e ++ rest) (flat_map-map references (with_numbers number_of) (parts e) ∙ same_all (parts e) all)
      ∙ sym (references_are e)

  -- it refers to the same
  pub keeps_references : (e : Expression) → references (with_numbers number_of e) ≡ references e
  keeps_references = over_all_parts Same same

-- The last numbers stay.
module _ (first last : List ℕ → Option Number) where
  abbrev Stay : Expression → Type 0
  Stay e = with_numbers last (with_numbers first e) ≡ with_numbers last e

  stay_all : (es : List Expression) → AllByRecursion Stay es → map (with_numbers last) (map (with_numbers first) es) ≡ map (with_numbers last) es
  stay_all [] all = refl
  stay_all (e ∷ es) all = λ i. all.0 i ∷ stay_all es all.1 i

  layer_stays : (s : Shape-F Shape Expression) → AllByRecursion Stay (layer_parts s) →
      given_layer last (given_layer first s) ≡ given_layer last s
  layer_stays (Shape-F.And lhs rhs) all = λ i. Shape-F.And (all.0 i) (all.1.0 i)
  layer_stays (Shape-F.Assert condition None) all = λ i. Shape-F.Assert (all.0 i) None
  layer_stays (Shape-F.Assert condition (Some message)) all = λ i. Shape-F.Assert (all.0 i) (Some (all.1.0 i))
  layer_stays (Shape-F.Backtick contents) all = refl
  layer_stays (Shape-F.Call name arguments) all = λ i. Shape-F.Call name (stay_all arguments all i)
  layer_stays (Shape-F.Comparison operator lhs rhs) all = λ i. Shape-F.Comparison operator (all.0 i) (all.1.0 i)
  layer_stays (Shape-F.Concatenation lhs rhs) all = λ i. Shape-F.Concatenation (all.0 i) (all.1.0 i)
  layer_stays (Shape-F.Conditional condition then None) all = λ i. Shape-F.Conditional (all.0 i) (all.1.0 i) None
  layer_stays (Shape-F.Conditional condition then (Some otherwise)) all = λ i. Shape-F.Conditional (all.0 i) (all.1.0 i) (Some (all.1.1.0 i))
  layer_stays (Shape-F.FormatString texts expressions) all = λ i. Shape-F.FormatString texts (stay_all expressions all i)
  layer_stays (Shape-F.Group contents) all = λ i. Shape-F.Group (all.0 i)
  layer_stays (Shape-F.Join None rhs) all = λ i. Shape-F.Join None (all.0 i)
  layer_stays (Shape-F.Join (Some lhs) rhs) all = λ i. Shape-F.Join (Some (all.0 i)) (all.1.0 i)
  layer_stays (Shape-F.List elements) all = λ i. Shape-F.List (stay_all elements all i)
  layer_stays (Shape-F.ListConcatenation lhs rhs) all = λ i. Shape-F.ListConcatenation (all.0 i) (all.1.0 i)
  layer_stays (Shape-F.Not operand) all = λ i. Shape-F.Not (all.0 i)
  layer_stays (Shape-F.Or lhs rhs) all = λ i. Shape-F.Or (all.0 i) (all.1.0 i)
  layer_stays (Shape-F.StringLiteral cooked) all = refl
  layer_stays (Shape-F.Variable name number) all = refl

  shape_stays : (s : Shape-F Shape Expression) → AllByRecursion Stay (layer_parts s) →
      shape_with_numbers last (shape_with_numbers first (roll-Shape s)) ≡ shape_with_numbers last (roll-Shape s)
  shape_stays s all =
      ap (shape_with_numbers last) (numbers_roll first s)
      ∙ numbers_roll last (given_layer first s)
      ∙ ap roll-Shape (layer_stays s all)
      ∙ sym (numbers_roll last s)

  stays : (e : Expression) → AllByRecursion Stay (parts e) → Stay e
  unfolding shape_parts
  stays e all =
      let again : Shape → Expression = λ s. roll-Expression (record { shape = s; text = (out-Expression e).text }) in
      numbers_out last (with_numbers first e)
      ∙ ap (λ x. roll-Expression (record { shape = shape_with_numbers last (out-Expression x).shape; text = (out-Expression x).text })) (numbers_out first e)
      ∙ ap (λ (x : Expression-F Shape Expression). roll-Expression (record { shape = shape_with_numbers last x.shape; text = x.text }))
      (out-roll-Expression (record { shape = shape_with_numbers first (out-Expression e).shape; text = (out-Expression e).text }))
      ∙ ap (λ s. again (shape_with_numbers last (shape_with_numbers first s))) (sym (roll-out-Shape (out-Expression e).shape))
      ∙ ap again (shape_stays (out-Shape (out-Expression e).shape) all)
      ∙ ap (λ s. again (shape_with_numbers last s)) (roll-out-Shape (out-Expression e).shape)
      ∙ sym (numbers_out last e)

  -- so an expression without numbers is the same, whichever it had
  pub numbers_stay : (e : Expression) → with_numbers last (with_numbers first e) ≡ with_numbers last e
  numbers_stay = over_all_parts Stay stays
