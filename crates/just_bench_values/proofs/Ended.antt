-- The constants after all of an order of evaluation.
use Rattle.std.proofs.Common.{◌≡◌, refl, sym, ◌∙◌, ap, subst, ℕ, zero, suc, ◌<◌, ◌≤◌, arith, Bool, true, false, cond, not, ◌||◌, ◌&&◌, List, [], ◌∷◌, length, map, reverse, take, Option, None, Some}
use Rattle.std.specs.Prelude.{if◌then◌else◌}
use Rattle.std.specs.Cmp.Lexicographic.{nat_list_eq_equiv}
use Rattle.std.specs.List.{Contains, IsDistinct, list_all}
use Rattle.std.specs.Option.{is_some, option_and_then, option_map}
use Rattle.std.specs.Str.{bytes_eq}
use Rattle.std.proofs.lemmas.List.{get_or_default, length-map, take_all}
use Rattle.std.proofs.lemmas.Map.Keys.{IsDistinct-from_apart}
use Rattle.std.proofs.lemmas.Map.Steps.{length-le_from_keys}
use Rattle.std.proofs.lemmas.Map.Views.{Contains-from_any}
use Rattle.std.proofs.lemmas.Slice.Eq.{bytes_eq-Decides}
use Rattle.just_names.proofs.Indexing.{texts_apart}
use Rattle.just_names.specs.Index.{AreDifferent, name_at}
use Rattle.just_names.specs.Texts.{Text}
use Rattle.just_names.specs.Name.{text_of_name}
use Rattle.just_names.specs.declared.number.Number.{Number}
use Rattle.just_parts.specs.Evaluator.{Binds, IsBindingOf, Values, Wanted, unnumbered_assignment, value_in, scope_values, wanted_by}
use Rattle.just_parts.specs.Known.{sources}
use Rattle.just_parts.specs.Reading.{IsEvaluationOrder}
use Rattle.just_ast_definitions.specs.declared.assignment.Assignment.{Assignment}
use Rattle.just_ast_definitions.specs.declared.function_definition.FunctionDefinition.{FunctionDefinition}
use Rattle.just_ast_expressions.specs.declared.scope.Binding.{Binding}
use Rattle.just_ast_expressions.specs.declared.scope.Scope.{Scope}
use Rattle.just_table.specs.Entries.{IsKeyed, IsSorted, find}
use Rattle.just_bench_values.specs.Constants.{assigned_value, constants_of, demanded, is_settled, overridden_or, evaluated_again, values_after}
use Rattle.just_bench_values.specs.Lookup.{constant_name, table_values}
use Rattle.just_bench_values.specs.Values.{value_among_constants}
use Rattle.just_bench_values.specs.declared.lookup.Constant.{Constant}
use Rattle.just_bench_values.proofs.Scoped.{binding_names, bindings_of, scope_each, scope_once, values_of_scope}
use Rattle.just_bench_values.proofs.Reversed.{contains_reverse, names_different}
use Rattle.just_bench_values.proofs.Settled.{Settled, next_value, unassigned, unneeded_value}
use Rattle.just_bench_values.proofs.Steps.{after_needed, after_unneeded, find_unnumbered, unneeded}

-- all pass
all_pass : {X : Type 0} (p : X → Bool) (xs : List X) → ((x : X) → p x ≡ true) → list_all p xs ≡ true
all_pass p [] each = refl
all_pass p (x ∷ xs) each = λ i. each x i && all_pass p xs each i

-- one that is found does not pass
fails_by : (b : Bool) (x y : Bool) → (b ≡ true → x ≡ false) → (b ≡ false → y ≡ false) → (x && y) ≡ false
fails_by true x y here there = ap (λ z. z && y) (here refl)
fails_by false true y here there = there refl
fails_by false false y here there = refl

unsettled : (wanted : Wanted) (values : Values) (name : Text) → wanted.needed name ≡ true → values name ≡ None → (not (wanted.needed name) || is_some (values name)) ≡ false
unsettled wanted values name need none = λ i. not (need i) || is_some (none i)

one_fails : (wanted : Wanted) (values : Values) (name : Text) → wanted.needed name ≡ true → values name ≡ None → (es : List (Text × Assignment)) (a : Assignment) → find name es ≡ Some a →
    list_all (is_settled wanted values) es ≡ false
one_fails wanted values name need none [] a is = cc
one_fails wanted values name need none (e ∷ es) a is =
    fails_by (bytes_eq name e.0) (is_settled wanted values e) (list_all (is_settled wanted values) es)
    (λ same. ap (λ x. not (wanted.needed x) || is_some (values x)) (sym ((bytes_eq-Decides name e.0).0 same)) ∙ unsettled wanted values name need none)
    (λ other. one_fails wanted values name need none es a (sym (ap (λ b. cond b (Some e.1) (find name es)) other) ∙ is))

module _ (assignments : List (Text × Assignment)) (table : List (Text × FunctionDefinition)) (overrides : Number → Option Text) (set : Number → Bool) (lists : Bool)
    (order : List Text) (is_order : IsEvaluationOrder (sources assignments table) order) where
  abbrev wanted : Wanted
  wanted = wanted_by assignments table overrides set lists

  abbrev steps : ℕ
  steps = length wanted.assignments

  abbrev last_values : Values
  last_values = values_after steps wanted

  distinct : IsDistinct bytes_eq order
  distinct = IsDistinct-from_apart bytes_eq order (λ i j d l h. texts_apart _ _ (λ same. is_order.once i j l h
      (get_or_default order i [] d (omega arith) ∙ same ∙ get_or_default order j d [] h)))

  -- an order is no longer than there are variables
  order_short : length order ≤ steps
  order_short =
      let short : length order ≤ length assignments = length-le_from_keys nat_list_eq_equiv order assignments distinct
      (λ name any. (is_order.lists name).0 (Contains-from_any (λ x y. (bytes_eq-Decides x y).0) name order any)) in
      omega (arith, length-map {B = Text × Assignment} assignments (λ (entry : Text × Assignment). (entry.0, unnumbered_assignment entry.1)))

  in_order : (name : Text) (a : Assignment) → find name assignments ≡ Some a → Contains order name
  in_order name a is = (is_order.lists name).1 (ap is_some is)

  needed_assigned : (name : Text) → wanted.needed name ≡ true → (o : Option Assignment) → find name assignments ≡ o → (a : Assignment) × (find name assignments ≡ Some a)
  needed_assigned name need None is = (let wrong : true ≡ false = sym need ∙ unneeded assignments table overrides set lists name is in cc)
  needed_assigned name need (Some a) is = (a, is)

  -- where one that is needed has no value there are no constants
  module _ (k : ℕ) (old : List (Text × Constant)) (so : Settled assignments wanted order k old) (inside : k < length order) where
    abbrev next : Text
    next = name_at order k

    no_value : (n : ℕ) → k < n → wanted.needed next ≡ true → (a : Assignment) → find next assignments ≡ Some a → assigned_value wanted (table_values old) next ≡ None → values_after n wanted next ≡ None
    no_value zero least need a is none = absurd (omega arith)
    no_value (suc n) least need a is none =
        after_needed wanted next need n ∙ next_value assignments table overrides set lists order is_order k old so inside a is n (omega arith) ∙ none

    value_next : (n : ℕ) → k < n → wanted.needed next ≡ true → (a : Assignment) → find next assignments ≡ Some a → values_after n wanted next ≡ assigned_value wanted (table_values old) next
    value_next zero least need a is = absurd (omega arith)
    value_next (suc n) least need a is =
        after_needed wanted next need n ∙ next_value assignments table overrides set lists order is_order k old so inside a is n (omega arith)

    stepped_by : (b : Bool) → wanted.needed next ≡ b → last_values next ≡ evaluated_again wanted (table_values old) next
    stepped_by false none = after_unneeded wanted next none steps ∙ sym (ap (λ b. if b then assigned_value wanted (table_values old) next else None) none)
    stepped_by true need =
        let found = needed_assigned next need (find next assignments) refl in
        value_next steps (omega (arith, order_short)) need found.0 found.1 ∙ sym (ap (λ b. if b then assigned_value wanted (table_values old) next else None) need)

    -- the value in the end is the one among those before
    pub stepped : last_values next ≡ evaluated_again wanted (table_values old) next
    stepped = stepped_by (wanted.needed next) refl

    no_constants : (b : Bool) → wanted.needed next ≡ b → demanded wanted (table_values old) next ≡ None → constants_of wanted ≡ None
    no_constants false unneeded_next none =
        (let wrong : Some [] ≡ None = sym (ap (λ b. if b then assigned_value wanted (table_values old) next else Some []) unneeded_next) ∙ none in cc)
    no_constants true need none =
        let found = needed_assigned next need (find next assignments) refl in
        let value : assigned_value wanted (table_values old) next ≡ None = sym (ap (λ b. if b then assigned_value wanted (table_values old) next else Some []) need) ∙ none in
        let last : last_values next ≡ None = no_value steps (omega (arith, order_short)) need found.0 found.1 value in
        ap (λ b. if b then Some last_values else None)
        (one_fails wanted last_values next need last wanted.assignments _ (find_unnumbered next assignments ∙ ap (option_map unnumbered_assignment) found.1))

    pub refused : demanded wanted (table_values old) next ≡ None → constants_of wanted ≡ None
    refused = no_constants (wanted.needed next) refl

  module _ (constants : List (Text × Constant)) (so : Settled assignments wanted order (length order) constants) where
    there : (name : Text) (a : Assignment) → find name assignments ≡ Some a → Contains (take (length order) order) name
    there name a is = subst (λ names. Contains names name) (sym (take_all (length order) order (omega arith))) (in_order name a is)

    value_at : (n : ℕ) → length order ≤ n → (name : Text) (o : Option Assignment) → find name assignments ≡ o → values_after n wanted name ≡ table_values constants name
    value_at n least name None is = unassigned assignments table overrides set lists order is_order (length order) constants so n name is
    value_at n least name (Some a) is = so.settled name (there name a is) n least

    last_value : (name : Text) → last_values name ≡ table_values constants name
    last_value name = value_at steps order_short name (find name assignments) refl

    mapped : (o : Option Constant) → is_some (option_map (λ (c : Constant). c.binding.value) o) ≡ is_some o
    mapped None = refl
    mapped (Some c) = refl

    has_needed : (name : Text) (b : Bool) → wanted.needed name ≡ b → is_some (table_values constants name) ≡ wanted.needed name
    has_needed name true need =
        let found = needed_assigned name need (find name assignments) refl in
        mapped (find name constants) ∙ so.there name (there name found.0 found.1) need ∙ sym need
    has_needed name false none =
        ap is_some (unneeded_value assignments table overrides set lists order is_order (length order) constants so name none (find name constants) refl) ∙ sym none

    -- it binds what is needed
    exactly : (name : Text) → is_some (table_values constants name) ≡ wanted.needed name
    exactly name = has_needed name (wanted.needed name) refl

    either : (b : Bool) → (not b || b) ≡ true
    either true = refl
    either false = refl

    pub all_settled : list_all (is_settled wanted last_values) wanted.assignments ≡ true
    all_settled = all_pass (is_settled wanted last_values) wanted.assignments
        (λ entry. ap (λ b. not (wanted.needed entry.0) || b) (ap is_some (last_value entry.0) ∙ exactly entry.0) ∙ either (wanted.needed entry.0))

    module _ (keyed : IsKeyed constant_name constants) (sorted : IsSorted constants) (scope : Scope) (bindings : reverse scope.bindings ≡ bindings_of constants) where
      value_is : (name : Text) → scope_values scope name ≡ table_values constants name
      value_is name = ap (λ bs. value_in bs name) bindings ∙ values_of_scope constants keyed name

      -- the constants are those of the scope
      pub constants_are : constants_of wanted ≡ Some (scope_values scope)
      constants_are =
          ap (λ b. if b then Some last_values else None) all_settled
          ∙ (let same : last_values ≡ scope_values scope = λ i name. (last_value name ∙ sym (value_is name)) i in ap (λ values. Some values) same)

      overridden : (name text : Text) → wanted.needed name ≡ true → wanted.overrides name ≡ Some text → table_values constants name ≡ Some (text ∷ [])
      overridden name text need is =
          sym (value_at (suc steps) (omega (arith, order_short)) name (find name assignments) refl)
          ∙ after_needed wanted name need steps
          ∙ ap (λ o. overridden_or o (option_and_then (λ (a : Assignment). value_among_constants wanted.functions last_values a.value) (find name wanted.assignments))) is

      each : (b : Binding) → Contains scope.bindings b → (a : Assignment) × (find (text_of_name b.name) assignments ≡ Some a) × IsBindingOf a b
      each b inside =
          let constant = scope_each constants keyed sorted b (subst (λ bs. Contains bs b) bindings (contains_reverse scope.bindings b inside)) in
          let bound = so.bound (text_of_name b.name) constant.0 constant.1 in
          (bound.assigned, bound.is, subst (IsBindingOf bound.assigned) constant.2 bound.binding)

      pub binds : Binds assignments wanted scope
      binds = record {
        exactly = λ name. ap is_some (value_is name) ∙ exactly name;
        once = names_different scope.bindings (subst (λ (bs : List Binding). AreDifferent (binding_names bs)) (sym bindings) (scope_once constants keyed sorted));
        each = each;
        overridden = λ name text need is. value_is name ∙ overridden name text need is;
      }
