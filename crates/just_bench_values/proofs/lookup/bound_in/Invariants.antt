use Rattle.std.proofs.Common.{◌≡◌}
use Rattle.just_parts.specs.Evaluator.{value_in, scope_values}
use Rattle.just_bench_values.proofs.lookup.bound_in.Given as goal

abbrev pub invariant-loop-binding : goal.invariant-loop-binding
invariant-loop-binding l = value_in l.binding-iterator l.name ≡ scope_values l.scope l.name
