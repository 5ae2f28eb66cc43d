use Rattle.std.proofs.Common.{◌≡◌, sym, ◌∙◌, ap, subst, arith, rules, ◌<◌, length, false}
use Rattle.std.specs.HashMap.{get}
use Rattle.just_bench_values.specs.Constants.{is_asked}
use Rattle.std.proofs.lemmas.List.{length-map}
use Rattle.std.proofs.lemmas.Result.{IfErr-weaker}
use Rattle.just_names.specs.Index.{texts_of_names}
use Rattle.just_names.specs.Name.{text_of_name}
use Rattle.just_parts.specs.Evaluator.{FaultsAt, wanted_by}
use Rattle.just_parts.specs.Needs.{same_number}
use Rattle.just_names.specs.Token.{Place}
use Rattle.just_parts.specs.Told.{IsPlaceInOne, assigned_values}
use Rattle.just_bench_values.specs.Constants.{demanded}
use Rattle.just_bench_values.specs.loops.Constants.{Adds}
use Rattle.just_bench_values.specs.Lookup.{table_values}
use Rattle.just_bench_values.proofs.Along.{Listed, listed_more, scope_is}
use Rattle.just_bench_values.proofs.Ended.{binds, constants_are, refused}
use Rattle.just_bench_values.proofs.Settled.{Settled, adds_any, name_at_place, settled_more}
use Rattle.just_bench_values.proofs.Told.{faults_on, told_err}
use Rattle.just_bench_values.proofs.constants.constants_of.Goals as goal

pub returns-in_err-add_constant-clause-refused : goal.returns-in_err-add_constant-clause-refused
returns-in_err-add_constant-clause-refused c = λ lists.
    let overrides = get same_number c.args.overrides.now in
    let set = is_asked c.args.references in
    let order = texts_of_names c.args.order.now in
    let old = c.loop-name.constants in
    let same = name_at_place c.args.order.now c.loop-name.name-index c.name-item.result c.loop-name-test.true c.name-item.is in
    let inside : c.loop-name.name-index < length order = omega (arith, length-map c.args.order.now text_of_name) in
    let wanted = wanted_by c.args.assignments.now c.args.functions.now overrides set lists in
    IfErr-weaker c.from_residual.result (λ e. e ≡ c.in_err-add_constant.field-0.0) _
    (λ e is. faults_on (λ none. refused c.args.assignments.now c.args.functions.now overrides set lists order c.requires.order c.loop-name.name-index old
    (c.loop-name.invariant.settled lists) inside (ap (demanded wanted (table_values old)) (sym same) ∙ none)) e
    (subst (FaultsAt (demanded wanted (table_values old) (text_of_name c.name-item.result))) (sym is) c.in_err-add_constant.ensures.refused)) (search rules)

pub returns-in_err-add_constant-clause-told : goal.returns-in_err-add_constant-clause-told
returns-in_err-add_constant-clause-told c =
    let P : Place → Type 0 = IsPlaceInOne c.args.functions.now (assigned_values c.args.assignments.now) in
    told_err {P = P} {Q = P} (λ place h. h) c.from_residual.result c.in_err-add_constant.field-0.0 (search rules) c.in_err-add_constant.ensures.told

pub loop-name-preserved : goal.loop-name-preserved
loop-name-preserved c =
    let overrides = get same_number c.args.overrides.now in
    let set = is_asked c.args.references in
    let order = texts_of_names c.args.order.now in
    let old = c.loop-name.constants in
    let new = c.add_constant.new.constants in
    let same = name_at_place c.args.order.now c.loop-name.name-index c.name-item.result c.loop-name-test.true c.name-item.is in
    let inside : c.loop-name.name-index < length order = omega (arith, length-map c.args.order.now text_of_name) in
    let wanted = wanted_by c.args.assignments.now c.args.functions.now overrides set false in
    record {
      settled = λ lists. settled_more c.args.assignments.now c.args.functions.now overrides set lists order c.requires.order c.loop-name.name-index old
          (c.loop-name.invariant.settled lists) inside new
          (λ need. subst (λ name. Adds c.args.assignments.now (wanted_by c.args.assignments.now c.args.functions.now overrides set lists) name old new) same
          (adds_any c.args.assignments.now c.args.functions.now overrides set lists (text_of_name c.name-item.result) old new
          (c.in_ok-add_constant.ensures.added (ap wanted.needed same ∙ need))))
          (λ none. c.in_ok-add_constant.ensures.skipped (ap wanted.needed same ∙ none));
      listed = λ lists. listed_more c.args.assignments.now c.args.functions.now overrides set lists c.args.order.now c.requires.order c.loop-name.name-index old new c.name-item.result
          (c.loop-name.invariant.settled lists) c.loop-name-test.true c.name-item.is c.in_ok-add_constant.ensures.put (c.loop-name.invariant.listed lists);
      keyed = c.in_ok-add_constant.ensures.keyed c.loop-name.invariant.keyed;
    }

pub returns-clause-constants : goal.returns-clause-constants
returns-clause-constants c = λ lists.
    let overrides = get same_number c.args.overrides.now in
    let set = is_asked c.args.references in
    let order = texts_of_names c.args.order.now in
    let whole : c.loop-name.name-index ≡ length order = omega (arith, length-map c.args.order.now text_of_name) in
    constants_are c.args.assignments.now c.args.functions.now overrides set lists order c.requires.order c.loop-name.constants
    (subst (λ k. Settled c.args.assignments.now (wanted_by c.args.assignments.now c.args.functions.now overrides set lists) order k c.loop-name.constants) whole (c.loop-name.invariant.settled lists))
    c.loop-name.invariant.keyed c.scope_of.ensures.sorted c.in_ok-scope_of.field-0 c.in_ok-scope_of.ensures.bindings

pub returns-clause-binds : goal.returns-clause-binds
returns-clause-binds c = λ lists.
    let overrides = get same_number c.args.overrides.now in
    let set = is_asked c.args.references in
    let order = texts_of_names c.args.order.now in
    let whole : c.loop-name.name-index ≡ length order = omega (arith, length-map c.args.order.now text_of_name) in
    binds c.args.assignments.now c.args.functions.now overrides set lists order c.requires.order c.loop-name.constants
    (subst (λ k. Settled c.args.assignments.now (wanted_by c.args.assignments.now c.args.functions.now overrides set lists) order k c.loop-name.constants) whole (c.loop-name.invariant.settled lists))
    c.loop-name.invariant.keyed c.scope_of.ensures.sorted c.in_ok-scope_of.field-0 c.in_ok-scope_of.ensures.bindings

pub returns-clause-exactly : goal.returns-clause-exactly
returns-clause-exactly c = λ lists.
    let overrides = get same_number c.args.overrides.now in
    let set = is_asked c.args.references in
    let order = texts_of_names c.args.order.now in
    let place : c.loop-name.name-index ≡ length c.args.order.now = omega arith in
    let whole : c.loop-name.name-index ≡ length order = omega (arith, length-map c.args.order.now text_of_name) in
    scope_is c.args.assignments.now c.args.functions.now overrides set lists c.args.order.now c.requires.order c.loop-name.constants
    (subst (λ k. Settled c.args.assignments.now (wanted_by c.args.assignments.now c.args.functions.now overrides set lists) order k c.loop-name.constants) whole (c.loop-name.invariant.settled lists))
    (subst (λ k. Listed c.args.assignments.now (wanted_by c.args.assignments.now c.args.functions.now overrides set lists) c.args.order.now k c.loop-name.constants) place (c.loop-name.invariant.listed lists))
    c.in_ok-scope_of.field-0 c.in_ok-scope_of.ensures.bindings
