-- How many are left when more are found.
use Rattle.std.proofs.Common.{◌≡◌, ℕ, zero, suc, ◌+◌, ◌≤◌, Bool, true, false, cond, not, List, [], ◌∷◌, count_by, Some, refl, ◌∙◌, ap, arith}
use Rattle.std.specs.List.{slice_get}
use Rattle.std.proofs.lemmas.Bool.{false≢true}
use Rattle.std.proofs.lemmas.List.Sums.{sum_by-cons}
use Rattle.std.proofs.lemmas.Option.{same_Some}
use Rattle.just_names.specs.Texts.{Text}
use Rattle.just_names.specs.declared.number.Number.{Number}
use Rattle.just_name_resolution.specs.loops.Search.{functions_left, variables_left}
use Rattle.just_ast_definitions.specs.declared.assignment.Assignment.{Assignment}
use Rattle.just_ast_definitions.specs.declared.function_definition.FunctionDefinition.{FunctionDefinition}
use Rattle.just_table.specs.Entries.{find}
use Rattle.just_parts.specs.Known.{Known}
use Rattle.just_name_resolution.proofs.Placed.{entry_found}

one_less : (old new : Bool) → (old ≡ true → new ≡ true) → cond (not new) 1 0 ≤ cond (not old) 1 0
one_less true true h = omega arith
one_less true false h = absurd (false≢true (h refl))
one_less false true h = omega arith
one_less false false h = omega arith

module _ {X : Type 0} (old new : X → Bool) (keeps : (x : X) → old x ≡ true → new x ≡ true) where
  abbrev left : (X → Bool) → X → ℕ
  left found x = cond (not (found x)) 1 0

  -- no more are left
  pub no_more_left : (xs : List X) → count_by (λ x. not (new x)) xs ≤ count_by (λ x. not (old x)) xs
  no_more_left [] = omega arith
  no_more_left (x ∷ xs) =
      let first : left new x ≤ left old x = one_less (old x) (new x) (keeps x) in
      let rest : count_by (λ y. not (new y)) xs ≤ count_by (λ y. not (old y)) xs = no_more_left xs in
      omega (arith, sum_by-cons (left new) x xs, sum_by-cons (left old) x xs)

  -- and one less, where one is found anew
  pub one_less_left : (xs : List X) (i : ℕ) (x : X) → slice_get xs i ≡ Some x → old x ≡ false → new x ≡ true → count_by (λ y. not (new y)) xs + 1 ≤ count_by (λ y. not (old y)) xs
  one_less_left [] i x e o n = cc
  one_less_left (y ∷ xs) zero x e o n =
      let same : y ≡ x = same_Some _ _ e in
      let now : left new y ≡ 0 = ap (left new) same ∙ ap (λ b. cond (not b) 1 0) n in
      let before : left old y ≡ 1 = ap (left old) same ∙ ap (λ b. cond (not b) 1 0) o in
      let rest : count_by (λ z. not (new z)) xs ≤ count_by (λ z. not (old z)) xs = no_more_left xs in
      omega (arith, sum_by-cons (left new) y xs, sum_by-cons (left old) y xs)
  one_less_left (y ∷ xs) (suc i) x e o n =
      let first : left new y ≤ left old y = one_less (old y) (new y) (keeps y) in
      let rest : count_by (λ z. not (new z)) xs + 1 ≤ count_by (λ z. not (old z)) xs = one_less_left xs i x e o n in
      omega (arith, sum_by-cons (left new) y xs, sum_by-cons (left old) y xs)

-- the same of the variables and the functions of a module
module _ (m : Known) where
  pub fewer_variables : (old new : Number → Bool) → ((n : Number) → old n ≡ true → new n ≡ true) → variables_left m new ≤ variables_left m old
  fewer_variables old new keeps = no_more_left (λ (e : Text × Assignment). old e.1.number) (λ (e : Text × Assignment). new e.1.number) (λ e h. keeps e.1.number h) m.assignments

  pub one_variable_fewer : (old new : Number → Bool) → ((n : Number) → old n ≡ true → new n ≡ true) → (name : Text) (a : Assignment) → find name m.assignments ≡ Some a
      → old a.number ≡ false → new a.number ≡ true → variables_left m new + 1 ≤ variables_left m old
  one_variable_fewer old new keeps name a is o n =
      let at = entry_found m.assignments name a is in
      one_less_left (λ (e : Text × Assignment). old e.1.number) (λ (e : Text × Assignment). new e.1.number) (λ e h. keeps e.1.number h) m.assignments at.0 (name, a) at.1 o n

  pub fewer_functions : (old new : Text → Bool) → ((name : Text) → old name ≡ true → new name ≡ true) → functions_left m new ≤ functions_left m old
  fewer_functions old new keeps = no_more_left (λ (e : Text × FunctionDefinition). old e.0) (λ (e : Text × FunctionDefinition). new e.0) (λ e h. keeps e.0 h) m.functions

  pub one_function_fewer : (old new : Text → Bool) → ((name : Text) → old name ≡ true → new name ≡ true) → (name : Text) (d : FunctionDefinition) → find name m.functions ≡ Some d
      → old name ≡ false → new name ≡ true → functions_left m new + 1 ≤ functions_left m old
  one_function_fewer old new keeps name d is o n =
      let at = entry_found m.functions name d is in
      one_less_left (λ (e : Text × FunctionDefinition). old e.0) (λ (e : Text × FunctionDefinition). new e.0) (λ e h. keeps e.0 h) m.functions at.0 (name, d) at.1 o n
