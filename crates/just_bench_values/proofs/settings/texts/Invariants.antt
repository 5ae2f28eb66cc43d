use Rattle.std.proofs.Common.{◌≡◌, take, map, Some}
use Rattle.just_parts.specs.Evaluator.{functions_by_name, scope_values}
use Rattle.just_bench_values.specs.Settings.{text_with}
use Rattle.just_bench_values.specs.Values.{all_of, value_among_constants}
use Rattle.just_bench_values.proofs.settings.texts.Given as goal

abbrev pub invariant-loop-expression : goal.invariant-loop-expression
invariant-loop-expression l = all_of (map (text_with (value_among_constants (functions_by_name l.functions) (scope_values l.constants))) (take l.expression-index l.expressions)) ≡ Some l.texts
