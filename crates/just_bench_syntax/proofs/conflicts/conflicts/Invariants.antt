use Rattle.std.proofs.Common.{◌≡◌, ◌++◌, drop}
use Rattle.just_bench_syntax.specs.Conflicts.{beside}
use Rattle.just_bench_syntax.proofs.conflicts.conflicts.Given as goal

abbrev pub invariant-loop-first : goal.invariant-loop-first
invariant-loop-first l = beside l.name l.pairs ≡ l.found ++ beside l.name (drop l.first-index l.pairs)
