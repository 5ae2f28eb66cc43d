use Rattle.std.proofs.Common.{◌≡◌, sym, ◌∙◌, ap}
use Rattle.just_parts.specs.Evaluator.{Values, functions_by_name}
use Rattle.just_parts.specs.Told.{IsPlaceIn}
use Rattle.just_bench_values.specs.Lookup.{constant_values}
use Rattle.just_bench_values.specs.Values.{bound, none_bound, value_with}
use Rattle.just_bench_values.proofs.Told.{tells_as}
use Rattle.just_bench_values.proofs.values.evaluate_among.Goals as goal

pub returns : goal.returns
returns c =
    let places = IsPlaceIn c.args.functions.now c.args.expression.now in
    let none : none_bound ≡ bound c.as_slice.result.now c.new.result = sym (ap (λ ps. bound ps c.new.result) (c.as_slice.ensures.value ∙ c.new-parameters.ensures.items)) in
    tells_as (ap (λ (hidden : Values). value_with 64 (functions_by_name c.args.functions.now) (constant_values c.args.constants) hidden c.args.expression.now) none)
    places places (λ place h. h) c.evaluate_in.result c.evaluate_in.ensures
