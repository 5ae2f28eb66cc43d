use Rattle.just_parts.specs.Evaluator.{functions_by_name, scope_values}
use Rattle.just_parts.specs.Told.{IsPlaceIn}
use Rattle.just_bench_values.specs.Values.{none_bound}
use Rattle.just_bench_values.proofs.Called.{bare_with}
use Rattle.just_bench_values.proofs.Told.{tells_as, told_fault, told_place, told_value}
use Rattle.just_bench_values.proofs.values.value_of.Goals as goal

pub returns-clause-value : goal.returns-clause-value
returns-clause-value c =
    let places = IsPlaceIn c.args.functions.now c.args.expression.now in
    let bare = bare_with 64 (functions_by_name c.args.functions.now) (scope_values c.args.constants.now) none_bound c.args.expression.now in
    told_value _ places c.evaluate_among.result (tells_as bare places places (λ place h. h) c.evaluate_among.result c.evaluate_among.ensures)

pub returns-clause-refused : goal.returns-clause-refused
returns-clause-refused c =
    let places = IsPlaceIn c.args.functions.now c.args.expression.now in
    let bare = bare_with 64 (functions_by_name c.args.functions.now) (scope_values c.args.constants.now) none_bound c.args.expression.now in
    told_fault _ places c.evaluate_among.result (tells_as bare places places (λ place h. h) c.evaluate_among.result c.evaluate_among.ensures)

pub returns-clause-told : goal.returns-clause-told
returns-clause-told c =
    let places = IsPlaceIn c.args.functions.now c.args.expression.now in
    let bare = bare_with 64 (functions_by_name c.args.functions.now) (scope_values c.args.constants.now) none_bound c.args.expression.now in
    told_place _ places c.evaluate_among.result (tells_as bare places places (λ place h. h) c.evaluate_among.result c.evaluate_among.ensures)
