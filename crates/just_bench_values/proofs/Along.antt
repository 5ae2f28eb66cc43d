-- The scope of constants, as an order of evaluation has their names.
use Rattle.std.proofs.Common.{◌≡◌, refl, sym, ◌∙◌, ap, subst, ℕ, ◌+◌, ◌<◌, arith, Bool, List, [], ◌∷◌, ◌++◌, length, get_or, map, reverse, take, Option, None, Some}
use Rattle.std.specs.Prelude.{if◌then◌else◌}
use Rattle.std.specs.List.{flat_map}
use Rattle.std.specs.Option.{option_map}
use Rattle.std.proofs.lemmas.Grind.{flat_map-append}
use Rattle.std.proofs.lemmas.List.{append-nil, length-map, reverse-reverse, take_all, take_more}
use Rattle.std.proofs.lemmas.List.Concat.{flat_map-cons}
use Rattle.just_names.specs.Index.{name_at, texts_of_names}
use Rattle.just_names.specs.Texts.{Text}
use Rattle.just_names.specs.Name.{text_of_name}
use Rattle.just_names.specs.declared.name.Name.{Name}
use Rattle.just_names.specs.declared.number.Number.{Number}
use Rattle.just_parts.specs.Evaluator.{Values, Wanted, wanted_by}
use Rattle.just_parts.specs.Known.{sources}
use Rattle.just_parts.specs.Reading.{IsEvaluationOrder}
use Rattle.just_ast_definitions.specs.declared.assignment.Assignment.{Assignment}
use Rattle.just_ast_definitions.specs.declared.function_definition.FunctionDefinition.{FunctionDefinition}
use Rattle.just_ast_expressions.specs.declared.scope.Scope.{Scope}
use Rattle.just_table.specs.Entries.{find, put, put_all}
use Rattle.just_bench_values.specs.Constants.{constants_along, constants_by, scope_along, scope_of, evaluated_again, values_after}
use Rattle.just_bench_values.specs.Lookup.{constant_name, table_values}
use Rattle.just_bench_values.specs.declared.lookup.Constant.{Constant}
use Rattle.just_bench_values.proofs.Ended.{all_settled, stepped}
use Rattle.just_bench_values.proofs.Scoped.{bindings_of}
use Rattle.just_bench_values.proofs.Settled.{Settled, name_at_place}

put_more : (es : List (Text × Constant)) (xs ys : List Constant) → put_all constant_name es (xs ++ ys) ≡ put_all constant_name (put_all constant_name es xs) ys
put_more es [] ys = refl
put_more es (x ∷ xs) ys = put_more (put (constant_name x) x es) xs ys

along_more : (f : Name → List Constant) (names : List Name) (k : ℕ) (x : Name) → k < length names → x ≡ get_or names k x → flat_map f (take (k + 1) names) ≡ flat_map f (take k names) ++ f x
along_more f names k x inside is =
    ap (flat_map f) (take_more names k x inside)
    ∙ flat_map-append f (take k names) (get_or names k x ∷ [])
    ∙ ap (λ ys. flat_map f (take k names) ++ ys) (flat_map-cons f (get_or names k x) [] ∙ append-nil (f (get_or names k x)) ∙ ap f (sym is))

-- the table of the first k names
abbrev pub Listed : List (Text × Assignment) → Wanted → List Name → ℕ → List (Text × Constant) → Type 0
Listed assignments wanted names k constants = constants ≡ put_all constant_name [] (constants_along assignments (values_after (length wanted.assignments) wanted) (take k names))

module _ (assignments : List (Text × Assignment)) (table : List (Text × FunctionDefinition)) (overrides : Number → Option Text) (set : Number → Bool) (lists : Bool)
    (names : List Name) (is_order : IsEvaluationOrder (sources assignments table) (texts_of_names names)) where
  abbrev wanted : Wanted
  wanted = wanted_by assignments table overrides set lists

  abbrev last_values : Values
  last_values = values_after (length wanted.assignments) wanted

  -- one name more
  pub listed_more : (k : ℕ) (old new : List (Text × Constant)) (x : Name) → Settled assignments wanted (texts_of_names names) k old → k < length names → x ≡ get_or names k x →
      new ≡ put_all constant_name old (constants_by x (find (text_of_name x) assignments) (evaluated_again wanted (table_values old) (text_of_name x))) → Listed assignments wanted names k old → Listed assignments wanted names (k + 1) new
  listed_more k old new x so within is puts listed =
      let same : text_of_name x ≡ name_at (texts_of_names names) k = name_at_place names k x within is in
      let inside : k < length (texts_of_names names) = omega (arith, length-map names text_of_name) in
      let value : last_values (text_of_name x) ≡ evaluated_again wanted (table_values old) (text_of_name x) =
      subst (λ name. last_values name ≡ evaluated_again wanted (table_values old) name) (sym same) (stepped assignments table overrides set lists (texts_of_names names) is_order k old so inside) in
      let f : Name → List Constant = λ name. constants_by name (find (text_of_name name) assignments) (last_values (text_of_name name)) in
      puts
      ∙ ap (λ v. put_all constant_name old (constants_by x (find (text_of_name x) assignments) v)) (sym value)
      ∙ ap (λ es. put_all constant_name es (f x)) listed
      ∙ sym (put_more [] (constants_along assignments last_values (take k names)) (f x))
      ∙ ap (put_all constant_name []) (sym (along_more f names k x within is))

  -- all names
  pub scope_is : (constants : List (Text × Constant)) → Settled assignments wanted (texts_of_names names) (length (texts_of_names names)) constants → Listed assignments wanted names (length names) constants →
      (scope : Scope) → reverse scope.bindings ≡ bindings_of constants → scope_of assignments names wanted ≡ Some scope
  scope_is constants so listed scope bindings =
      let whole : constants ≡ put_all constant_name [] (constants_along assignments last_values names) =
      listed ∙ ap (λ xs. put_all constant_name [] (constants_along assignments last_values xs)) (take_all (length names) names (omega arith)) in
      let same : scope.bindings ≡ (scope_along assignments names last_values).bindings =
      sym (reverse-reverse scope.bindings) ∙ ap reverse (bindings ∙ ap bindings_of whole) in
      ap (λ b. option_map (scope_along assignments names) (if b then Some last_values else None)) (all_settled assignments table overrides set lists (texts_of_names names) is_order constants so)
      ∙ sym (λ i. Some (record { bindings = same i }))
