-- Variables of different numbers are told apart by them.
use Rattle.std.proofs.Common.{◌≡◌, ◌∙◌, ◌⊎◌, ℕ, Bool, true, false, cond, List, [], ◌∷◌, None, Some, inl, inr, sym, ap, subst, refl}
use Rattle.std.specs.Str.{bytes_eq}
use Rattle.std.proofs.lemmas.Slice.Eq.{bytes_eq-Decides}
use Rattle.just_graph.specs.Steps.{IsOnce}
use Rattle.just_graph.proofs.Index.{some_same}
use Rattle.just_graph.proofs.Leveling.{Once}
use Rattle.just_graph.proofs.Members.{In, in_map}
use Rattle.just_names.specs.Texts.{Text}
use Rattle.just_names.specs.Name.{text_of_name}
use Rattle.just_parts.specs.Needs.{HaveNumbersApart}
use Rattle.just_parts.specs.Syntax.{SyntaxAnswers}
use Rattle.just_ast_definitions.specs.declared.assignment.Assignment.{Assignment}
use Rattle.just_table.specs.Entries.{find, put, put_all}
use Rattle.just_module_variables.specs.Variables.{known_with_numbers}
use Rattle.just_justfile.specs.declared.justfile.Justfile.{Justfile}
use Rattle.just_compiled.specs.Variables.{HasTables, HasVariables}
use Rattle.just_module_variables.proofs.Tabled.{are_tables}
use Rattle.just_module_headers.specs.Analyzable.{assignment_numbers}
use Rattle.just_module_contents.specs.Contents.{Contents}
use Rattle.just_module_contents.specs.Kept.{claim_of_variable, kept_variables}
use Rattle.just_module_contents.proofs.Keeping.{left_in}
use Rattle.just_module_contents.proofs.Once.{from_once}
use Rattle.just_table.proofs.Puts.{find_put}

abbrev pub name_of : Assignment → Text
name_of a = text_of_name a.name

abbrev pub number_of : Assignment → ℕ
number_of a = a.number.0

module _ (x : Text) (a : Assignment) where
  here : (v : Assignment) (vs : List Assignment) (es : List (Text × Assignment)) (b : Bool) → bytes_eq x (name_of v) ≡ b → cond b (Some v) (find x es) ≡ Some a → (In a (v ∷ vs) × (name_of a ≡ x)) ⊎ (find x es ≡ Some a)
  here v vs es true t f = inl (inl (sym (some_same f)), ap name_of (sym (some_same f)) ∙ sym ((bytes_eq-Decides x (name_of v)).0 t))
  here v vs es false t f = inr f

  later : (v : Assignment) (vs : List Assignment) → In a vs × (name_of a ≡ x) → In a (v ∷ vs) × (name_of a ≡ x)
  later v vs h = (inr h.0, h.1)

  -- a variable that is found was put in
  found : (vs : List Assignment) (es : List (Text × Assignment)) → find x (put_all name_of es vs) ≡ Some a → (In a vs × (name_of a ≡ x)) ⊎ (find x es ≡ Some a)
  found [] es e = inr e
  found (v ∷ vs) es e = elim (found vs (put (name_of v) v es) e) [
    | inl h ↦ inl (later v vs h)
    | inr f ↦ here v vs es (bytes_eq x (name_of v)) refl (sym (find_put x (name_of v) v es) ∙ f)
  ]

  pub found_among : (vs : List Assignment) → find x (put_all name_of [] vs) ≡ Some a → In a vs × (name_of a ≡ x)
  found_among vs e = elim (found vs [] e) [ inl h ↦ h | inr none ↦ (let wrong : None ≡ Some a = none in cc) ]

-- one number is that of one variable
pub one_of : (vs : List Assignment) → Once (assignment_numbers vs) → (a b : Assignment) → In a vs → In b vs → number_of a ≡ number_of b → a ≡ b
one_of [] once a b h k e = absurd h
one_of (v ∷ vs) once a b (inl p) (inl q) e = p ∙ sym q
one_of (v ∷ vs) once a b (inl p) (inr k) e = absurd (once.0 (subst (λ n. In n (assignment_numbers vs)) (sym e ∙ ap number_of p) (in_map number_of b vs k)))
one_of (v ∷ vs) once a b (inr h) (inl q) e = absurd (once.0 (subst (λ n. In n (assignment_numbers vs)) (e ∙ ap number_of q) (in_map number_of a vs h)))
one_of (v ∷ vs) once a b (inr h) (inr k) e = one_of vs once.1 a b h k e

pub numbers_apart : (answers : SyntaxAnswers) (m : Contents) → IsOnce (assignment_numbers m.variables) → HaveNumbersApart (known_with_numbers answers m)
numbers_apart answers m once x y a b is_a is_b same =
    let in_a = found_among x a (kept_variables m.variables) is_a in
    let in_b = found_among y b (kept_variables m.variables) is_b in
    let one = one_of m.variables (from_once (assignment_numbers m.variables) once) a b (left_in claim_of_variable m.variables m.variables a in_a.0) (left_in claim_of_variable m.variables m.variables b in_b.0) (ap (λ n. n.0) same) in
    sym in_a.1 ∙ ap name_of one ∙ in_b.1

-- so the tables of a justfile tell its variables apart
pub has_tables : (answers : SyntaxAnswers) (m : Contents) (j : Justfile) → IsOnce (assignment_numbers m.variables) → HasVariables answers m j → HasTables j
has_tables answers m j once is = are_tables answers m _ _ _ is (numbers_apart answers m once)
