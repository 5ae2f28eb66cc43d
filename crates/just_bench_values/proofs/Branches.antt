-- What each shape comes to among functions, constants and parameters.
use Rattle.std.proofs.Common.{◌≡◌, refl, sym, ◌∙◌, ap, ℕ, zero, suc, List, [], ◌∷◌, map, Option, None, Some}
use Rattle.std.specs.Option.{option_and_then, option_map}
use Rattle.just_names.specs.Texts.{Text}
use Rattle.just_names.specs.Name.{text_of_name}
use Rattle.just_names.specs.declared.name.Name.{Name}
use Rattle.just_names.specs.declared.number.Number.{Number}
use Rattle.just_parts.specs.Evaluator.{Functions, Values}
use Rattle.just_ast_expressions.specs.declared.expression.Expression.{Expression, out-Expression}
use Rattle.just_ast_expressions.specs.declared.expression.Shape.{Shape}
use Rattle.just_ast_expressions.specs.declared.expression.Shape.TheVariants as shape
use Rattle.just_bench_values.specs.loops.Tasks.{call_in, call_with, frame_value, values_in, variable_in}
use Rattle.just_bench_values.specs.Values.{Outcome, all_of, evaluated, hiding, one_after_another, put_together, shape_evaluated, value_with}
use Rattle.just_bench_values.specs.declared.tasks.Among.{Among}
use Rattle.just_bench_values.specs.declared.tasks.Frame.{Frame}
use Rattle.just_bench_values.proofs.Shapes as comes

pub with_is : (calls : ℕ) (functions : Functions) (constants parameters : Values) (e : Expression) →
    value_with calls functions constants parameters e ≡ evaluated (hiding parameters constants) (call_with calls functions constants) e
unfolding value_with
with_is zero functions constants parameters e = refl
with_is (suc calls) functions constants parameters e = refl

module _ (a : Among) (f : Frame) where
  abbrev shape_in : Shape → Outcome
  shape_in = shape_evaluated (variable_in a f) (call_in a f)

  abbrev is_evaluated : (e : Expression) → frame_value a f e ≡ evaluated (variable_in a f) (call_in a f) e
  is_evaluated e = with_is f.calls _ _ _ e

  all_evaluated : (es : List Expression) → values_in a f es ≡ all_of (map (evaluated (variable_in a f) (call_in a f)) es)
  all_evaluated es = λ i. all_of (map (λ e. is_evaluated e i) es)

  module _ (e : Expression) where
    at : (s : Shape) → (out-Expression e).shape ≡ s → frame_value a f e ≡ shape_in s
    at s is = is_evaluated e ∙ comes.value_out _ _ e ∙ ap shape_in is

    -- there is no value of the other shapes
    pub at_none : (s : Shape) → (out-Expression e).shape ≡ s → shape_evaluated (variable_in a f) (call_in a f) s ≡ None → frame_value a f e ≡ None
    at_none s is none = at s is ∙ none

    pub at_StringLiteral : (cooked : Text) → (out-Expression e).shape ≡ shape.StringLiteral cooked → frame_value a f e ≡ Some (cooked ∷ [])
    at_StringLiteral cooked is = at _ is ∙ comes.value_of-StringLiteral _ _ cooked

    pub at_Variable : (name : Name) (number : Option Number) → (out-Expression e).shape ≡ shape.Variable name number → frame_value a f e ≡ variable_in a f (text_of_name name)
    at_Variable name number is = at _ is ∙ comes.value_of-Variable _ _ name number

    pub at_Group : (contents : Expression) → (out-Expression e).shape ≡ shape.Group contents → frame_value a f e ≡ frame_value a f contents
    at_Group contents is = at _ is ∙ comes.value_of-Group _ _ contents ∙ sym (is_evaluated contents)

    pub at_List : (elements : List Expression) → (out-Expression e).shape ≡ shape.List elements → frame_value a f e ≡ option_map one_after_another (values_in a f elements)
    at_List elements is = at _ is ∙ comes.value_of-List _ _ elements ∙ ap (option_map one_after_another) (sym (all_evaluated elements))

    pub at_Concatenation : (lhs rhs : Expression) → (out-Expression e).shape ≡ shape.Concatenation lhs rhs →
        frame_value a f e ≡ option_and_then (λ left. option_map (put_together left) (frame_value a f rhs)) (frame_value a f lhs)
    at_Concatenation lhs rhs is = at _ is ∙ comes.value_of-Concatenation _ _ lhs rhs
        ∙ sym (λ i. option_and_then (λ left. option_map (put_together left) (is_evaluated rhs i)) (is_evaluated lhs i))

    pub at_Call : (name : Name) (arguments : List Expression) → (out-Expression e).shape ≡ shape.Call name arguments →
        frame_value a f e ≡ option_and_then (call_in a f (text_of_name name)) (values_in a f arguments)
    at_Call name arguments is = at _ is ∙ comes.value_of-Call _ _ name arguments ∙ ap (option_and_then (call_in a f (text_of_name name))) (sym (all_evaluated arguments))
