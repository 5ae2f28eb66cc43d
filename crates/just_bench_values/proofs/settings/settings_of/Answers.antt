use Rattle.std.proofs.Common.{◌≡◌, sym, ◌∙◌, ap, subst, arith, rules, drop, drop-cons, suc, ◌∷◌}
use Rattle.std.specs.List.{Contains, flat_map}
use Rattle.std.specs.Option.{option_and_then}
use Rattle.std.proofs.lemmas.List.{drop_all}
use Rattle.std.proofs.lemmas.Result.{IfErr-weaker}
use Rattle.just_parts.specs.Evaluator.{FaultsAt, functions_by_name, set_expressions, scope_values}
use Rattle.just_ast_definitions.specs.declared.setting.Set.{Set}
use Rattle.just_bench_values.specs.Settings.{plain_settings, setting_with, settings_with}
use Rattle.just_bench_values.specs.Values.{none_bound, value_among_constants}
use Rattle.just_bench_values.proofs.BareSets.{bare_sets}
use Rattle.just_bench_values.proofs.Called.{bare_with}
use Rattle.just_bench_values.proofs.Programs.{made_has}
use Rattle.just_bench_values.proofs.Told.{faults_on, told_err}
use Rattle.just_bench_values.proofs.Places.{in_flat, in_more}
use Rattle.std.proofs.lemmas.List.Elements.{Contains-get_or}
use Rattle.just_bench_values.proofs.settings.settings_of.Goals as goal

pub loop-one-init : goal.loop-one-init
loop-one-init c =
    let value = value_among_constants (functions_by_name c.args.functions.now) (scope_values c.args.constants.now) in
    ap (settings_with value c.args.sets.now) c.in_ok-settings.ensures

pub returns-in_err-set-clause-refused : goal.returns-in_err-set-clause-refused
returns-in_err-set-clause-refused c =
    let functions = functions_by_name c.args.functions.now in
    let constants = scope_values c.args.constants.now in
    let value = value_among_constants functions constants in
    let sets = c.args.sets.now in
    let i = c.loop-one.one-index in
    IfErr-weaker c.from_residual-in_err-set.result (λ e. e ≡ c.in_err-set.field-0.0) _
    (λ e same. faults_on (λ none. bare_sets value (bare_with 64 functions constants none_bound) sets plain_settings
    ∙ sym c.loop-one.invariant
    ∙ ap (λ xs. settings_with value xs c.loop-one.settings) (drop-cons sets i c.one-item.result c.loop-one-test.true)
    ∙ ap (λ (x : Set). settings_with value (x ∷ drop (suc i) sets) c.loop-one.settings) (sym c.one-item.is)
    ∙ ap (option_and_then (settings_with value (drop (suc i) sets))) none) e
    (subst (FaultsAt (setting_with value c.one-item.result.value c.loop-one.settings)) (sym same) c.in_err-set.ensures.refused)) (search rules)

pub returns-in_err-set-clause-told : goal.returns-in_err-set-clause-told
returns-in_err-set-clause-told c =
    let there = subst (Contains c.args.sets.now) (sym c.one-item.is) (Contains-get_or c.args.sets.now c.loop-one.one-index c.one-item.result c.loop-one-test.true) in
    told_err (in_more c.args.functions.now (set_expressions c.one-item.result) (flat_map set_expressions c.args.sets.now) (λ e. in_flat set_expressions c.args.sets.now c.one-item.result e there))
    c.from_residual-in_err-set.result c.in_err-set.field-0.0 (search rules) c.in_err-set.ensures.told

pub returns-clause-settings : goal.returns-clause-settings
returns-clause-settings c =
    let functions = functions_by_name c.args.functions.now in
    let constants = scope_values c.args.constants.now in
    let value = value_among_constants functions constants in
    bare_sets value (bare_with 64 functions constants none_bound) c.args.sets.now plain_settings
    ∙ sym c.loop-one.invariant
    ∙ ap (λ xs. settings_with value xs c.loop-one.settings) (drop_all c.loop-one.one-index c.args.sets.now (omega arith))

pub returns-clause-programs : goal.returns-clause-programs
returns-clause-programs c =
    let functions = functions_by_name c.args.functions.now in
    let constants = scope_values c.args.constants.now in
    let value = value_among_constants functions constants in
    made_has value c.args.sets.now c.loop-one.settings
    (sym c.loop-one.invariant ∙ ap (λ xs. settings_with value xs c.loop-one.settings) (drop_all c.loop-one.one-index c.args.sets.now (omega arith)))
