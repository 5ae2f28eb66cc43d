use Rattle.std.proofs.Common.{◌≡◌, ◌++◌, length, reverse}
use Rattle.just_bench_values.proofs.constants.chained.Given as goal

abbrev pub invariant-loop-binding : goal.invariant-loop-binding
invariant-loop-binding l = l.rest.items ++ reverse l.chain ≡ l.fn.bindings.items

abbrev pub decreases-loop-binding : goal.decreases-loop-binding
decreases-loop-binding l = length l.rest.items
