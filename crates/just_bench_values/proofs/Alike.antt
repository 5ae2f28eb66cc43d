-- Values of one expression where what it mentions comes to the same, whichever numbers it has.
use Rattle.std.proofs.Common.{◌≡◌, refl, sym, ◌∙◌, ap, subst, ℕ, suc, arith, List, [], ◌∷◌, ◌++◌, map, Option, None}
use Rattle.std.specs.List.{AllByRecursion, Contains, flat_map}
use Rattle.std.specs.Option.{option_and_then, option_map}
use Rattle.std.proofs.lemmas.List.{map-append}
use Rattle.std.proofs.lemmas.List.Concat.{flat_map-cons}
use Rattle.just_names.specs.Texts.{Text}
use Rattle.just_names.specs.declared.number.Number.{Number}
use Rattle.just_parts.specs.Evaluator.{Values}
use Rattle.just_parts.specs.Reading.{mentions}
use Rattle.just_ast_expressions.specs.declared.expression.Expression.{Expression, out-Expression, out-roll-Expression}
use Rattle.just_ast_expressions.specs.declared.expression.Shape.{Shape, out-Shape, roll-Shape, roll-out-Shape}
use Rattle.just_ast_expressions.specs.declared.expression.Shape.TheOpen.{Shape-F, Expression-F}
use Rattle.just_ast_references.specs.Mentions.{Calls, Mention, Names, mention_of}
use Rattle.just_ast_references.specs.Numbers.{bare, with_numbers}
use Rattle.just_ast_references.specs.loops.Numbers.{shape_with_numbers}
use Rattle.just_ast_expressions.specs.Parts.{layer_parts, parts, shape_parts}
use Rattle.just_ast_references.specs.References.{layer_mention, mention, references, shape_mention}
use Rattle.just_ast_references.proofs.Fold.{references_are}
use Rattle.just_ast_references.proofs.Induction.{over_all_parts}
use Rattle.just_ast_references.proofs.NumbersOf.{given_layer, numbers_out, numbers_roll}
use Rattle.just_bench_values.specs.Values.{Outcome, all_of, evaluated, one_after_another, put_together, shape_evaluated}
use Rattle.just_bench_values.proofs.Shapes.{layer_value, value_out, value_roll}

module _ {X : Type 0} (P : X → Type 0) where
  all_left : (xs ys : List X) → AllByRecursion P (xs ++ ys) → AllByRecursion P xs
  all_left [] ys all = tt
  all_left (x ∷ xs) ys all = (all.0, all_left xs ys all.1)

  all_right : (xs ys : List X) → AllByRecursion P (xs ++ ys) → AllByRecursion P ys
  all_right [] ys all = all
  all_right (x ∷ xs) ys all = all_right xs ys all.1

  -- what holds of each element holds of all
  pub all_from : (xs : List X) → ((x : X) → Contains xs x → P x) → AllByRecursion P xs
  all_from [] each = tt
  all_from (x ∷ xs) each = (each x (0, omega arith, refl), all_from xs (λ y there. each y (suc there.0, omega (arith, there.1), there.2)))

module _ (number_of : List ℕ → Option Number) (v w : Values) (c d : Text → List (List Text) → Outcome) where
  -- what is mentioned comes to the same
  abbrev pub Agree : Mention → Type 0
  Agree (Calls name count) = (arguments : List (List Text)) → c name arguments ≡ d name arguments
  Agree (Names name) = v name ≡ w name

  abbrev Same : Expression → Type 0
  Same e = evaluated v c (with_numbers number_of e) ≡ evaluated w d e

  abbrev Agreed : Expression → Type 0
  Agreed e = AllByRecursion Agree (mentions e) → Same e

  all_same : (es : List Expression) → AllByRecursion Same es → all_of (map (evaluated v c) (map (with_numbers number_of) es)) ≡ all_of (map (evaluated w d) es)
  all_same [] all = refl
  all_same (e ∷ es) all = λ i. option_and_then (λ x. option_map (λ xs. x ∷ xs) (all_same es all.1 i)) (all.0 i)

  layer_same : (s : Shape-F Shape Expression) → AllByRecursion Same (layer_parts s) → AllByRecursion Agree (map mention_of (layer_mention s)) →
      layer_value v c (given_layer number_of s) ≡ layer_value w d s
  layer_same (Shape-F.And lhs rhs) all own = refl
  layer_same (Shape-F.Assert condition message) all own = refl
  layer_same (Shape-F.Backtick contents) all own = refl
  layer_same (Shape-F.Call name arguments) all own = λ i. option_and_then (λ values. own.0 values i) (all_same arguments all i)
  layer_same (Shape-F.Comparison operator lhs rhs) all own = refl
  layer_same (Shape-F.Concatenation lhs rhs) all own = λ i. option_and_then (λ left. option_map (put_together left) (all.1.0 i)) (all.0 i)
  layer_same (Shape-F.Conditional condition then otherwise) all own = refl
  layer_same (Shape-F.FormatString texts expressions) all own = refl
  layer_same (Shape-F.Group contents) all own = all.0
  layer_same (Shape-F.Join lhs rhs) all own = refl
  layer_same (Shape-F.List elements) all own = ap (option_map one_after_another) (all_same elements all)
  layer_same (Shape-F.ListConcatenation lhs rhs) all own = refl
  layer_same (Shape-F.Not operand) all own = refl
  layer_same (Shape-F.Or lhs rhs) all own = refl
  layer_same (Shape-F.StringLiteral cooked) all own = refl
  layer_same (Shape-F.Variable name number) all own = own.0

  shape_same : (s : Shape-F Shape Expression) → AllByRecursion Same (layer_parts s) → AllByRecursion Agree (map mention_of (layer_mention s)) →
      shape_evaluated v c (shape_with_numbers number_of (roll-Shape s)) ≡ shape_evaluated w d (roll-Shape s)
  shape_same s all own =
      ap (shape_evaluated v c) (numbers_roll number_of s) ∙ value_roll v c (given_layer number_of s) ∙ layer_same s all own ∙ sym (value_roll w d s)

  -- the shape of an expression with other numbers
  shape_given : (e : Expression) → (out-Expression (with_numbers number_of e)).shape ≡ shape_with_numbers number_of (out-Expression e).shape
  shape_given e =
      ap (λ x. (out-Expression x).shape) (numbers_out number_of e)
      ∙ ap (λ (x : Expression-F Shape Expression). x.shape)
      (out-roll-Expression (record { shape = shape_with_numbers number_of (out-Expression e).shape; text = (out-Expression e).text }))

  whole_same : (e : Expression) → AllByRecursion Same (parts e) → AllByRecursion Agree (map mention_of (mention e)) → Same e
  unfolding shape_parts shape_mention
  whole_same e all own =
      let s = (out-Expression e).shape in
      value_out v c (with_numbers number_of e)
      ∙ ap (shape_evaluated v c) (shape_given e)
      ∙ ap (λ x. shape_evaluated v c (shape_with_numbers number_of x)) (sym (roll-out-Shape s))
      ∙ shape_same (out-Shape s) all own
      ∙ ap (shape_evaluated w d) (roll-out-Shape s)
      ∙ sym (value_out w d e)

  parts_same : (es : List Expression) → AllByRecursion Agreed es → AllByRecursion Agree (map mention_of (flat_map references es)) → AllByRecursion Same es
  parts_same [] all agree = tt
  parts_same (e ∷ es) all agree =
      let split = subst (AllByRecursion Agree) (ap (map mention_of) (flat_map-cons references e es) ∙ map-append mention_of (references e) (flat_map references es)) agree in
      (all.0 (all_left Agree _ _ split), parts_same es all.1 (all_right Agree (mentions e) _ split))

  agreed : (e : Expression) → AllByRecursion Agreed (parts e) → Agreed e
  agreed e all agree =
      let split = subst (AllByRecursion Agree) (ap (map mention_of) (references_are e) ∙ map-append mention_of (mention e) (flat_map references (parts e))) agree in
      whole_same e (parts_same (parts e) all (all_right Agree (map mention_of (mention e)) _ split)) (all_left Agree _ _ split)

  pub same_value : (e : Expression) → AllByRecursion Agree (mentions e) → evaluated v c (with_numbers number_of e) ≡ evaluated w d e
  same_value = over_all_parts Agreed agreed

-- everything agrees with itself
agrees : (v : Values) (c : Text → List (List Text) → Outcome) (number_of : List ℕ → Option Number) (m : Mention) → Agree number_of v v c c m
agrees v c number_of (Calls name count) = λ arguments. refl
agrees v c number_of (Names name) = refl

-- numbers make no difference
pub bare_value : (v : Values) (c : Text → List (List Text) → Outcome) (e : Expression) → evaluated v c (bare e) ≡ evaluated v c e
bare_value v c e = same_value (λ name. None) v v c c e (all_from (Agree (λ name. None) v v c c) (mentions e) (λ m there. agrees v c (λ name. None) m))

-- where what is mentioned comes to the same, so does the whole
pub agreed_value : (v w : Values) (c d : Text → List (List Text) → Outcome) (e : Expression) →
    ((m : Mention) → Contains (mentions e) m → Agree (λ name. None) v w c d m) → evaluated v c e ≡ evaluated w d e
agreed_value v w c d e agree = sym (bare_value v c e) ∙ same_value (λ name. None) v w c d e (all_from (Agree (λ name. None) v w c d) (mentions e) agree)
