use Rattle.std.proofs.Common.{◌≡◌, map}
use Rattle.just_bench_values.specs.declared.lookup.Constant.{Constant}
use Rattle.just_bench_values.proofs.constants.scope_of.Given as goal

abbrev pub invariant-loop-constant : goal.invariant-loop-constant
invariant-loop-constant l = l.bindings.items ≡ map (λ (c : Constant). c.binding) l.yielded
