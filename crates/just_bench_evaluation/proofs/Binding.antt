-- Scopes that bind parameters.
use Rattle.std.proofs.Common.{◌≡◌, ℕ, zero, suc, ◌+◌, ◌<◌, ◌≤◌, Bool, true, false, ◌||◌, List, [], ◌∷◌, ◌++◌, get_or, length, drop, reverse, refl, sym, ◌∙◌, ap, subst, arith, Some, None, IsSome, bytes_eq}
use Rattle.std.specs.Prelude.{IfOk, Result, Ok, Err}
use Rattle.std.specs.List.{list_any}
use Rattle.std.specs.Option.{option_and_then}
use Rattle.std.proofs.Math.Bool.{or_assoc, or_comm}
use Rattle.std.proofs.Math.Seq.{drop-cons}
use Rattle.std.proofs.lemmas.Bool.{cond-true, cond-false}
use Rattle.std.proofs.lemmas.List.{drop_all, reverse-append}
use Rattle.just_ast_definitions.specs.declared.parameter.Parameter.{Parameter}
use Rattle.just_ast_expressions.specs.declared.expression.Expression.{Expression}
use Rattle.just_ast_expressions.specs.declared.scope.Binding.{Binding}
use Rattle.just_ast_expressions.specs.declared.scope.Scope.{Scope}
use Rattle.just_errors.specs.declared.refusal.Refusal.{Refusal}
use Rattle.just_names.specs.Name.{text_of_name}
use Rattle.just_names.specs.Texts.{Text}
use Rattle.just_names.specs.declared.number.Number.{Number}
use Rattle.just_parts.specs.Evaluator.{value_in, scope_values}
use Rattle.just_parts.specs.Needs.{same_number}
use Rattle.just_run_layers.specs.declared.held.Held.{Held}
use Rattle.just_run_layers.specs.Covering.{BindsParameters, binds, has_parameter}
use Rattle.just_bench_evaluation.specs.Parameters.{bind_all, none_bound_in, parameter_value, scope_with, with_parameter}
use Rattle.just_bench_evaluation.specs.loops.Refusals.{TellsValue}
use Rattle.just_bench_values.specs.Values.{Outcome}

binds_none : (scope : Scope) → BindsParameters [] scope scope
binds_none scope = record { exactly = λ n. refl; named = λ name h. absurd (cc); others = λ name h. refl }

either_false : (a b : Bool) → (a || b) ≡ false → (a ≡ false) × (b ≡ false)
either_false false false h = (refl, refl)
either_false false true h = absurd (cc)
either_false true b h = absurd (cc)

first_true : (a b : Bool) → (a || b) ≡ true → b ≡ false → a ≡ true
first_true true b h k = refl
first_true false false h k = absurd (cc)
first_true false true h k = absurd (cc)

-- one more binding at the end
any_end : (p : Binding → Bool) (bs : List Binding) (b : Binding) → list_any p (bs ++ b ∷ []) ≡ (list_any p bs || p b)
any_end p [] b = or_comm (p b) false
any_end p (x ∷ xs) b = ap (λ y. p x || y) (any_end p xs b) ∙ sym (or_assoc (p x) (list_any p xs) (p b))

reverse_end : (bs : List Binding) (b : Binding) → reverse (bs ++ b ∷ []) ≡ b ∷ reverse bs
reverse_end bs b = reverse-append bs (b ∷ [])

module _ (scope : Scope) (p : Parameter) (value : List Text) where
  abbrev more : Scope
  more = scope_with p value scope

  binds_with : (n : Number) → binds more n ≡ (binds scope n || same_number p.number n)
  binds_with n = any_end (λ (b : Binding). same_number b.number n) scope.bindings _

  value_with_own : (name : Text) → bytes_eq (text_of_name p.name) name ≡ true → scope_values more name ≡ Some value
  value_with_own name is = ap (λ bs. value_in bs name) (reverse_end scope.bindings _) ∙ cond-true (bytes_eq (text_of_name p.name) name) (Some value) (scope_values scope name) is

  value_with_other : (name : Text) → bytes_eq (text_of_name p.name) name ≡ false → scope_values more name ≡ scope_values scope name
  value_with_other name is = ap (λ bs. value_in bs name) (reverse_end scope.bindings _) ∙ cond-false (bytes_eq (text_of_name p.name) name) (Some value) (scope_values scope name) is

  module _ (ps : List Parameter) (new : Scope) (b : BindsParameters ps more new) where
    exactly : (n : Number) → binds new n ≡ (list_any (λ (q : Parameter). same_number q.number n) (p ∷ ps) || binds scope n)
    exactly n =
        let any : Bool = list_any (λ (q : Parameter). same_number q.number n) ps in
        let first : Bool = same_number p.number n in
        b.exactly n ∙ ap (λ x. any || x) (binds_with n ∙ or_comm (binds scope n) first) ∙ sym (or_assoc any first (binds scope n)) ∙ ap (λ x. x || binds scope n) (or_comm any first)

    named_by : (name : Text) (rest : Bool) → has_parameter ps name ≡ rest → has_parameter (p ∷ ps) name ≡ true → IsSome (scope_values new name)
    named_by name true e h = b.named name e
    named_by name false e h =
        let is : bytes_eq (text_of_name p.name) name ≡ true = first_true (bytes_eq (text_of_name p.name) name) (has_parameter ps name) h e in
        subst IsSome (sym (b.others name e ∙ value_with_own name is)) refl

    others : (name : Text) → has_parameter (p ∷ ps) name ≡ false → scope_values new name ≡ scope_values scope name
    others name h =
        let not = either_false (bytes_eq (text_of_name p.name) name) (has_parameter ps name) h in
        b.others name not.1 ∙ value_with_other name not.0

    binds_more : BindsParameters (p ∷ ps) scope new
    binds_more = record { exactly = exactly; named = λ name h. named_by name (has_parameter ps name) refl h; others = others }

module _ (value : Scope → Expression → Outcome) where
  -- one parameter, and the others
  bind_first : (p : Parameter) (ps : List Parameter) (gs : List (List Text)) (bound new : Held) (found : Outcome) →
      option_and_then (λ x. bind_all value ps gs (with_parameter p x bound)) found ≡ Some new → (x : List Text) × (bind_all value ps gs (with_parameter p x bound) ≡ Some new)
  bind_first p ps gs bound new None h = absurd (cc)
  bind_first p ps gs bound new (Some x) h = (x, h)

  pub binds_all : (ps : List Parameter) (gs : List (List Text)) (bound new : Held) → bind_all value ps gs bound ≡ Some new → BindsParameters ps bound.scope new.scope
  binds_all [] gs bound new h = let e : bound ≡ new = cc in subst (λ (x : Held). BindsParameters [] bound.scope x.scope) e (binds_none bound.scope)
  binds_all (p ∷ ps) [] bound new h = absurd (cc)
  binds_all (p ∷ ps) (g ∷ gs) bound new h =
      let at = bind_first p ps gs bound new (parameter_value value bound.scope p g) h in
      binds_more bound.scope p at.0 ps new.scope (binds_all ps gs (with_parameter p at.0 bound) new at.1)

  -- where there are too few groups
  pub too_few : (ps : List Parameter) (gs : List (List Text)) (bound : Held) (i : ℕ) → i < length ps → length gs ≤ i → bind_all value (drop i ps) (drop i gs) bound ≡ None
  too_few [] gs bound i l g = absurd (omega (arith, l))
  too_few (p ∷ ps) [] bound zero l g = refl
  too_few (p ∷ ps) (x ∷ gs) bound zero l g = absurd (omega (arith, g))
  too_few (p ∷ ps) [] bound (suc i) l g = subst (λ gs. bind_all value (drop i ps) gs bound ≡ None) (drop_all i [] (omega arith)) (too_few ps [] bound i (omega (arith, l)) (omega arith))
  too_few (p ∷ ps) (x ∷ gs) bound (suc i) l g = too_few ps gs bound i (omega (arith, l)) (omega (arith, g))

-- in a loop: what is left from a place on
pub drop_one : {A : Type 0} (i : ℕ) (xs : List A) (x : A) → i < length xs → x ≡ get_or xs i x → drop i xs ≡ x ∷ drop (i + 1) xs
drop_one i xs x h e =
    let next : suc i ≡ i + 1 = omega arith in
    drop-cons xs i x h ∙ ap (λ y. y ∷ drop (suc i) xs) (sym e) ∙ ap (λ k. x ∷ drop k xs) next

-- what is answered for parameters binds them
pub answer_binds : (value : Scope → Expression → Outcome) (scope : Scope) (ps : List Parameter) (gs : List (List Text)) (r : Result Held Refusal) →
    TellsValue (bind_all value ps gs (none_bound_in scope)) r → IfOk r (λ bound. BindsParameters ps scope bound.scope)
answer_binds value scope ps gs (Ok bound) h = binds_all value ps gs (none_bound_in scope) bound h
answer_binds value scope ps gs (Err e) h = tt
