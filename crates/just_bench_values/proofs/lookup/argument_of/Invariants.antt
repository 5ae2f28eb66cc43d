use Rattle.std.proofs.Common.{◌≡◌, drop}
use Rattle.just_bench_values.specs.Values.{bound}
use Rattle.just_bench_values.proofs.lookup.argument_of.Given as goal

abbrev pub invariant-loop-place : goal.invariant-loop-place
invariant-loop-place l = bound (drop l.place l.parameters) (drop l.place l.arguments) l.name ≡ bound l.parameters l.arguments l.name
