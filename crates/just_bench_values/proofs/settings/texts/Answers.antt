use Rattle.std.specs.List.{Contains}
use Rattle.std.proofs.lemmas.List.Elements.{Contains-get_or}
use Rattle.just_bench_values.proofs.Places.{in_element}
use Rattle.std.proofs.Common.{subst, sym, ◌∙◌, ap, rules, Some}
use Rattle.just_parts.specs.Evaluator.{functions_by_name, scope_values}
use Rattle.just_bench_values.specs.Settings.{text_with}
use Rattle.just_bench_values.specs.Values.{value_among_constants}
use Rattle.just_bench_values.proofs.AllOf.{all_more, all_none}
use Rattle.just_bench_values.proofs.Told.{tells_fault}
use Rattle.just_bench_values.proofs.settings.texts.Goals as goal

pub returns-in_err-text : goal.returns-in_err-text
returns-in_err-text c =
    let there = subst (Contains c.args.expressions.now) (sym c.expression-item.is) (Contains-get_or c.args.expressions.now c.loop-expression.expression-index c.expression-item.result c.loop-expression-test.true) in
    let text = text_with (value_among_constants (functions_by_name c.args.functions.now) (scope_values c.args.constants.now)) in
    tells_fault (λ none. all_none text c.args.expressions.now c.loop-expression.expression-index c.expression-item.result c.loop-expression-test.true
    (ap text (sym c.expression-item.is) ∙ none)) (in_element c.args.functions.now c.args.expressions.now c.expression-item.result there) c.in_err-text.field-0.0 c.in_err-text.ensures.0 c.in_err-text.ensures.1 c.from_residual.result (search rules)

pub loop-expression-preserved : goal.loop-expression-preserved
loop-expression-preserved c =
    let text = text_with (value_among_constants (functions_by_name c.args.functions.now) (scope_values c.args.constants.now)) in
    all_more text c.args.expressions.now c.loop-expression.expression-index c.expression-item.result c.loop-expression.texts c.in_ok-text.text
    c.loop-expression-test.true c.loop-expression.invariant (ap text (sym c.expression-item.is) ∙ c.in_ok-text.ensures)
    ∙ ap (λ texts. Some texts) (sym c.in_ok-push.ensures.ok)
