use Rattle.std.proofs.Common.{◌≡◌}
use Rattle.just_bench_values.specs.Lookup.{number_value, value_numbered}
use Rattle.just_bench_values.proofs.lookup.numbered_in.Given as goal

abbrev pub invariant-loop-binding : goal.invariant-loop-binding
invariant-loop-binding l = value_numbered l.binding-iterator l.number ≡ number_value l.scope l.number
