-- Places of the parts of an expression are places of the expression.
use Rattle.std.proofs.Common.{◌≡◌, sym, ◌∙◌, ap, subst, zero, suc, arith, Bool, true, false, cond, List, [], ◌∷◌, length, Option, Some, refl}
use Rattle.std.specs.List.{Contains, flat_map}
use Rattle.std.proofs.lemmas.List.Concat.{flat_map-cons}
use Rattle.std.proofs.lemmas.List.Elements.{Contains-append_left, Contains-append_right}
use Rattle.just_names.specs.Texts.{Text}
use Rattle.just_names.specs.Token.{Place}
use Rattle.just_names.specs.declared.name.Name.{Name}
use Rattle.just_names.specs.declared.number.Number.{Number}
use Rattle.std.specs.Str.{bytes_eq}
use Rattle.just_ast_definitions.specs.declared.assignment.Assignment.{Assignment}
use Rattle.just_table.specs.Entries.{find}
use Rattle.just_ast_definitions.specs.declared.function_definition.FunctionDefinition.{FunctionDefinition}
use Rattle.just_ast_expressions.specs.declared.expression.Expression.{Expression, out-Expression}
use Rattle.just_ast_expressions.specs.declared.expression.Shape.{Shape}
use Rattle.just_ast_expressions.specs.declared.expression.Shape.TheVariants as shape
use Rattle.just_ast_expressions.specs.Parts.{parts, shape_parts}
use Rattle.just_ast_references.specs.References.{mention, shape_mention}
use Rattle.just_ast_references.specs.declared.references.Reference.{Reference}
use Rattle.just_ast_references.specs.declared.references.Reference.TheVariants as reference
use Rattle.just_ast_references.proofs.MentionsOf.{mention_of-Call, mention_of-Variable}
use Rattle.just_ast_expressions.proofs.PartsOf.{parts_of-Call, parts_of-Concatenation, parts_of-Group, parts_of-List}
use Rattle.just_parts.specs.Told.{IsPlaceIn, IsPlaceInOne, assigned_values, at_name, in_body, in_part, of_no_name, nowhere}
use Rattle.just_bench_values.specs.loops.Lookup.{IsPlaceOfCall, at_call, in_called}

pub in_flat : {A B : Type 0} (f : A → List B) (xs : List A) (x : A) (y : B) → Contains xs x → Contains (f x) y → Contains (flat_map f xs) y
in_flat f [] x y c h = absurd (omega (arith, c.1))
in_flat f (z ∷ zs) x y (zero, within, is) h = subst (λ ys. Contains ys y) (sym (flat_map-cons f z zs)) (Contains-append_left (f z) (flat_map f zs) y (subst (λ w. Contains (f w) y) (sym is) h))
in_flat f (z ∷ zs) x y (suc k, within, is) h = subst (λ ys. Contains ys y) (sym (flat_map-cons f z zs)) (Contains-append_right (f z) (flat_map f zs) y (in_flat f zs x y (k, omega arith, is) h))

-- the element at a place of a list that is another's
pub element_in : {A : Type 0} (xs ys : List A) (x : A) → ys ≡ xs → Contains xs x → Contains ys x
element_in xs ys x same c = subst (λ zs. Contains zs x) (sym same) c

module _ (fs : List (Text × FunctionDefinition)) (e : Expression) where
  own : (r : Reference) → mention e ≡ r ∷ [] → Contains (mention e) r
  own r is = subst (λ rs. Contains rs r) (sym is) (0, omega arith, refl)

  pub at_nowhere : (s : Shape) → (out-Expression e).shape ≡ s → shape_mention s ≡ [] → (place : Place) → place ≡ nowhere → IsPlaceIn fs e place
  at_nowhere s is none place told = subst (IsPlaceIn fs e) (sym told) (of_no_name (ap shape_mention is ∙ none))

  pub at_variable : (name : Name) (number : Option Number) → (out-Expression e).shape ≡ shape.Variable name number → (place : Place) → place ≡ name.token → IsPlaceIn fs e place
  at_variable name number is place told =
      subst (IsPlaceIn fs e) (sym told) (at_name (reference.Variable name) (own (reference.Variable name) (ap shape_mention is ∙ mention_of-Variable name number)))

  module _ (name : Name) (arguments : List Expression) (is : (out-Expression e).shape ≡ shape.Call name arguments) where
    called : Contains (mention e) (reference.Call name (length arguments))
    called = own (reference.Call name (length arguments)) (ap shape_mention is ∙ mention_of-Call name arguments)

    pub at_its_call : (place : Place) → IsPlaceOfCall fs name place → IsPlaceIn fs e place
    at_its_call place (at_call told) = subst (IsPlaceIn fs e) (sym told) (at_name (reference.Call name (length arguments)) called)
    at_its_call place (in_called found inside) = in_body name (length arguments) called found inside

  -- a place of one of the parts
  in_one : (es : List Expression) → parts e ≡ es → (place : Place) → IsPlaceInOne fs es place → IsPlaceIn fs e place
  in_one es are place one = in_part one.e (element_in es (parts e) one.e are one.there) one.in_it

  pub in_elements : (es given : List Expression) → (out-Expression e).shape ≡ shape.List es → given ≡ es → (place : Place) → IsPlaceInOne fs given place → IsPlaceIn fs e place
  in_elements es given is same = in_one given (ap shape_parts is ∙ parts_of-List es ∙ sym same)

  pub in_arguments : (name : Name) (es given : List Expression) → (out-Expression e).shape ≡ shape.Call name es → given ≡ es → (place : Place) → IsPlaceInOne fs given place → IsPlaceIn fs e place
  in_arguments name es given is same = in_one given (ap shape_parts is ∙ parts_of-Call name es ∙ sym same)

  pub in_group : (contents : Expression) → (out-Expression e).shape ≡ shape.Group contents → (place : Place) → IsPlaceIn fs contents place → IsPlaceIn fs e place
  in_group contents is place = in_part contents (element_in (contents ∷ []) (parts e) contents (ap shape_parts is ∙ parts_of-Group contents) (0, omega arith, refl))

  module _ (lhs rhs : Expression) (is : (out-Expression e).shape ≡ shape.Concatenation lhs rhs) where
    pub in_left : (place : Place) → IsPlaceIn fs lhs place → IsPlaceIn fs e place
    in_left place = in_part lhs (element_in (lhs ∷ rhs ∷ []) (parts e) lhs (ap shape_parts is ∙ parts_of-Concatenation lhs rhs) (0, omega arith, refl))

    pub in_right : (place : Place) → IsPlaceIn fs rhs place → IsPlaceIn fs e place
    in_right place = in_part rhs (element_in (lhs ∷ rhs ∷ []) (parts e) rhs (ap shape_parts is ∙ parts_of-Concatenation lhs rhs) (1, omega arith, refl))

-- a place of an element of a list
pub in_element : (fs : List (Text × FunctionDefinition)) (es : List Expression) (e : Expression) → Contains es e → (place : Place) → IsPlaceIn fs e place → IsPlaceInOne fs es place
in_element fs es e c place inside = record { e = e; there = c; in_it = inside }

-- a place of one of some expressions is one of more
pub in_more : (fs : List (Text × FunctionDefinition)) (es more : List Expression) → ((e : Expression) → Contains es e → Contains more e) → (place : Place) → IsPlaceInOne fs es place → IsPlaceInOne fs more place
in_more fs es more within place one = record { e = one.e; there = within one.e one.there; in_it = one.in_it }

-- the value of a variable of a table is one of the values that are assigned
assigned_here : (b : Bool) (entry : Text × Assignment) (es : List (Text × Assignment)) (rest : Option Assignment) (a : Assignment) → (rest ≡ Some a → Contains (assigned_values es) a.value)
    → cond b (Some entry.1) rest ≡ Some a → Contains (assigned_values (entry ∷ es)) a.value
assigned_here true entry es rest a later is =
    let same : entry.1.value ≡ a.value = ap (λ (x : Assignment). x.value) {x = entry.1} {y = a} (cc is) in
    subst (Contains (assigned_values (entry ∷ es))) same (Contains-append_left (entry.1.value ∷ []) (assigned_values es) entry.1.value (0, omega arith, refl))
assigned_here false entry es rest a later is = Contains-append_right (entry.1.value ∷ []) (assigned_values es) a.value (later is)

pub assigned_in : (name : Text) (es : List (Text × Assignment)) (a : Assignment) → find name es ≡ Some a → Contains (assigned_values es) a.value
assigned_in name [] a is = absurd (cc is)
assigned_in name (entry ∷ es) a is = assigned_here (bytes_eq name entry.0) entry es (find name es) a (assigned_in name es a) is
