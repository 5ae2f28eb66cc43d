use Rattle.std.proofs.Common.{◌≡◌, sym, ◌∙◌, ap, subst, rules, true, false, [], None, Some}
use Rattle.std.specs.Prelude.{if◌then◌else◌}
use Rattle.std.specs.HashMap.{get}
use Rattle.just_bench_values.specs.Constants.{is_asked}
use Rattle.std.proofs.lemmas.Result.{IfErr-weaker}
use Rattle.just_names.specs.Name.{text_of_name}
use Rattle.just_names.specs.declared.name.Name.{Name}
use Rattle.just_parts.specs.Evaluator.{FaultsAt, functions_by_name, wanted_by}
use Rattle.just_parts.specs.Needs.{same_number}
use Rattle.just_table.specs.Entries.{find, put, put_all}
use Rattle.just_bench_values.specs.Constants.{assigned_value, constants_by, overridden_or, evaluated_again}
use Rattle.just_bench_values.specs.Lookup.{constant_name, table_values}
use Rattle.just_bench_values.specs.Values.{value_among_constants}
use Rattle.just_bench_values.specs.declared.lookup.Constant.{Constant}
use Rattle.just_bench_values.proofs.Steps.{assigned_is, needed_is}
use Rattle.just_bench_values.proofs.Told.{faults_on, told_err}
use Rattle.just_bench_values.proofs.Places.{assigned_in, in_element}
use Rattle.just_parts.specs.Told.{assigned_values}
use Rattle.just_bench_values.proofs.constants.add_constant.Goals as goal

pub returns-in_err-value-clause-refused : goal.returns-in_err-value-clause-refused
returns-in_err-value-clause-refused c =
    let overrides = get same_number c.args.overrides.now in
    let set = is_asked c.args.references in
    let name = text_of_name c.args.name.now in
    let a = c.in-Some.assignment.now in
    let values = table_values c.args.constants.now in
    let found : find name c.args.assignments.now ≡ Some a = search rules in
    let there : set a.number ≡ true = search rules in
    let wanted = wanted_by c.args.assignments.now c.args.functions.now overrides set false in
    IfErr-weaker c.from_residual.result (λ e. e ≡ c.in_err-value.field-0.0) _
    (λ e same. faults_on (λ none. ap (λ b. if b then assigned_value wanted values name else Some [])
    (needed_is c.args.assignments.now c.args.functions.now overrides set false name a found ∙ there)
    ∙ assigned_is c.args.assignments.now c.args.functions.now overrides set false values name a found ∙ none) e
    (subst (FaultsAt (overridden_or (overrides a.number) (value_among_constants (functions_by_name c.args.functions.now) values a.value))) (sym same) c.in_err-value.ensures.0)) (search rules)

pub returns-in_err-value-clause-told : goal.returns-in_err-value-clause-told
returns-in_err-value-clause-told c =
    let a = c.in-Some.assignment.now in
    let found : find (text_of_name c.args.name.now) c.args.assignments.now ≡ Some a = search rules in
    told_err (in_element c.args.functions.now (assigned_values c.args.assignments.now) a.value (assigned_in (text_of_name c.args.name.now) c.args.assignments.now a found))
    c.from_residual.result c.in_err-value.field-0.0 (search rules) c.in_err-value.ensures.1

pub returns-clause-added : goal.returns-clause-added
returns-clause-added c = λ need.
    let overrides = get same_number c.args.overrides.now in
    let set = is_asked c.args.references in
    let name = text_of_name c.args.name.now in
    let a = c.in-Some.assignment.now in
    let found : find name c.args.assignments.now ≡ Some a = search rules in
    let same : text_of_name c.copied.result ≡ name = ap text_of_name c.copied.ensures in
    let constant : Constant = record { binding = record { name = c.copied.result; number = a.number; value = c.in_ok-value.value; export = a.export; private = a.private } } in
    record {
      constant = constant;
      assigned = a;
      is = found;
      named = same;
      binding = record { number = search rules; export = search rules; private = search rules };
      value = assigned_is c.args.assignments.now c.args.functions.now overrides set false (table_values c.args.constants.now) name a found ∙ c.in_ok-value.ensures;
      after = c.in_ok-insert.ensures.new ∙ ap (λ key. put key constant c.args.constants.now) same;
    }

pub returns-clause-put : goal.returns-clause-put
returns-clause-put c =
    let overrides = get same_number c.args.overrides.now in
    let set = is_asked c.args.references in
    let name = text_of_name c.args.name.now in
    let a = c.in-Some.assignment.now in
    let values = table_values c.args.constants.now in
    let found : find name c.args.assignments.now ≡ Some a = search rules in
    let there : set a.number ≡ true = search rules in
    let wanted = wanted_by c.args.assignments.now c.args.functions.now overrides set false in
    let stepped : evaluated_again wanted values name ≡ Some c.in_ok-value.value =
    ap (λ b. if b then assigned_value wanted values name else None) (needed_is c.args.assignments.now c.args.functions.now overrides set false name a found ∙ there)
    ∙ assigned_is c.args.assignments.now c.args.functions.now overrides set false values name a found ∙ c.in_ok-value.ensures in
    let constant : Name → Constant = λ n. record { binding = record { name = n; number = a.number; value = c.in_ok-value.value; export = a.export; private = a.private } } in
    c.in_ok-insert.ensures.new
    ∙ ap (λ n. put (text_of_name n) (constant n) c.args.constants.now) c.copied.ensures
    ∙ sym (λ i. put_all constant_name c.args.constants.now (constants_by c.args.name.now (found i) (stepped i)))
