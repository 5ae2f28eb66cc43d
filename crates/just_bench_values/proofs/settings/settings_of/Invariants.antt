use Rattle.std.proofs.Common.{◌≡◌, drop}
use Rattle.just_parts.specs.Evaluator.{functions_by_name, scope_values}
use Rattle.just_bench_values.specs.Settings.{plain_settings, settings_with}
use Rattle.just_bench_values.specs.Values.{value_among_constants}
use Rattle.just_bench_values.proofs.settings.settings_of.Given as goal

abbrev pub invariant-loop-one : goal.invariant-loop-one
invariant-loop-one l =
    let value = value_among_constants (functions_by_name l.functions) (scope_values l.constants) in
    settings_with value (drop l.one-index l.sets) l.settings ≡ settings_with value l.sets plain_settings
