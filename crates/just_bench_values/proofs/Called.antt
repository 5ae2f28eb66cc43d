-- What a call of a function comes to.
use Rattle.std.proofs.Common.{◌≡◌, refl, sym, ◌∙◌, ap, ℕ, zero, suc, ◌+◌, ◌-◌, ◌<◌, ◌≤◌, arith, add-one, drop-cons, Bool, true, false, cond, List, [], ◌∷◌, length, map, get_or, drop, Option, None, Some}
use Rattle.std.specs.Prelude.{◌==◌, ◌||◌, if◌then◌else◌}
use Rattle.std.specs.Option.{is_some, option_and_then, option_map}
use Rattle.std.specs.Str.{bytes_eq}
use Rattle.std.proofs.lemmas.List.{drop_all, length-map}
use Rattle.just_names.specs.Texts.{Text}
use Rattle.just_names.specs.Name.{text_of_name}
use Rattle.just_parts.specs.Bare.{bare_function_parameter}
use Rattle.just_parts.specs.Evaluator.{Functions, Values, functions_by_name, unnumbered_function}
use Rattle.just_parts.specs.Known.{hides}
use Rattle.just_ast_expressions.specs.declared.expression.Expression.{Expression}
use Rattle.just_ast_definitions.specs.declared.function_definition.FunctionDefinition.{FunctionDefinition}
use Rattle.just_ast_definitions.specs.declared.function_definition.FunctionParameter.{FunctionParameter}
use Rattle.just_ast_references.specs.Numbers.{bare}
use Rattle.just_table.specs.Entries.{find}
use Rattle.just_bench_values.specs.loops.Tasks.{call_with}
use Rattle.just_bench_values.specs.Values.{Outcome, body_with, bound, value_with}
use Rattle.just_bench_values.proofs.Alike.{bare_value}
use Rattle.just_bench_values.proofs.Branches.{with_is}
use Rattle.just_bench_values.proofs.Measure.{one_less}

-- numbers make no difference
pub bare_with : (calls : ℕ) (functions : Functions) (constants parameters : Values) (e : Expression) →
    value_with calls functions constants parameters (bare e) ≡ value_with calls functions constants parameters e
bare_with calls functions constants parameters e =
    with_is calls functions constants parameters (bare e) ∙ bare_value _ _ e ∙ sym (with_is calls functions constants parameters e)

bound_by : (b : Bool) (value : List Text) {o p : Option (List Text)} → o ≡ p → cond b (Some value) o ≡ cond b (Some value) p
bound_by b value same = ap (cond b (Some value)) same

pub bare_bound : (ps : List FunctionParameter) (values : List (List Text)) (name : Text) → bound (map bare_function_parameter ps) values name ≡ bound ps values name
bare_bound [] values name = refl
bare_bound (p ∷ ps) [] name = refl
bare_bound (p ∷ ps) (value ∷ values) name = bound_by (bytes_eq (text_of_name p.name) name) value (bare_bound ps values name)

-- the body of a function without numbers comes to what it comes to with them
pub body_is : (calls : ℕ) (functions : Functions) (constants : Values) (arguments : List (List Text)) (f : FunctionDefinition) →
    body_with (value_with calls functions constants) arguments (unnumbered_function f)
    ≡ (if length f.parameters == length arguments then value_with calls functions constants (bound f.parameters arguments) f.body else None)
body_is calls functions constants arguments f =
    (λ i. if length-map f.parameters bare_function_parameter i == length arguments
    then value_with calls functions constants (λ name. bare_bound f.parameters arguments name i) (bare f.body) else None)
    ∙ ap (λ value. if length f.parameters == length arguments then value else None) (bare_with calls functions constants (bound f.parameters arguments) f.body)

module _ (table : List (Text × FunctionDefinition)) (constants : Values) (name : Text) (arguments : List (List Text)) where
  abbrev functions : Functions
  functions = functions_by_name table

  abbrev call : ℕ → Outcome
  call calls = call_with calls functions constants name arguments

  abbrev body : ℕ → FunctionDefinition → Outcome
  body calls f = value_with calls functions constants (bound f.parameters arguments) f.body

  pub call_none : (calls : ℕ) → find name table ≡ None → call calls ≡ None
  call_none zero none = refl
  call_none (suc calls) none = ap (λ o. option_and_then (body_with (value_with calls functions constants) arguments) (option_map unnumbered_function o)) none

  pub call_of : (calls : ℕ) (f : FunctionDefinition) → find name table ≡ Some f →
      call (suc calls) ≡ (if length f.parameters == length arguments then body calls f else None)
  call_of calls f is =
      ap (λ o. option_and_then (body_with (value_with calls functions constants) arguments) (option_map unnumbered_function o)) is ∙ body_is calls functions constants arguments f

  pub call_down : (calls : ℕ) (f : FunctionDefinition) → 0 < calls → find name table ≡ Some f → length f.parameters ≡ length arguments → call calls ≡ body (calls - 1) f
  call_down zero f some is many = absurd (omega arith)
  call_down (suc calls) f some is many =
      let all : (length f.parameters == length arguments) ≡ true = grind arith in
      call_of calls f is ∙ ap (λ b. if b then body calls f else None) all ∙ ap (λ n. body n f) (sym (one_less calls))

-- of two lists, those from one place on
bound_none : (ps : List FunctionParameter) (name : Text) → bound ps [] name ≡ None
bound_none [] name = refl
bound_none (p ∷ ps) name = refl

pub bound_short : (ps : List FunctionParameter) (values : List (List Text)) (i : ℕ) (name : Text) → length values ≤ i → bound (drop i ps) (drop i values) name ≡ None
bound_short ps values i name short = ap (λ vs. bound (drop i ps) vs name) (drop_all i values short) ∙ bound_none (drop i ps) name

pub bound_next : (ps : List FunctionParameter) (values : List (List Text)) (i : ℕ) (p : FunctionParameter) (name : Text) → i < length ps → i < length values →
    bytes_eq (text_of_name (get_or ps i p).name) name ≡ false → bound (drop (i + 1) ps) (drop (i + 1) values) name ≡ bound (drop i ps) (drop i values) name
bound_next ps values i p name inside also other =
    (λ j. bound (drop (add-one i j) ps) (drop (add-one i j) values) name)
    ∙ ap (λ b. cond b (Some (get_or values i [])) (bound (drop (suc i) ps) (drop (suc i) values) name)) (sym other)
    ∙ sym (λ j. bound (drop-cons ps i p inside j) (drop-cons values i [] also j) name)

-- parameters that have values are those that hide
pub bound_hides : (ps : List FunctionParameter) (values : List (List Text)) → length ps ≡ length values → (name : Text) → is_some (bound ps values name) ≡ hides ps name
bound_hides [] values same name = refl
bound_hides (p ∷ ps) [] same name = absurd (omega (arith, same))
bound_hides (p ∷ ps) (value ∷ values) same name = by_test (bytes_eq (text_of_name p.name) name) (bound_hides ps values (omega (arith, same)) name)
  where
    by_test : (b : Bool) → is_some (bound ps values name) ≡ hides ps name → is_some (cond b (Some value) (bound ps values name)) ≡ b || hides ps name
    by_test true rest = refl
    by_test false rest = rest
