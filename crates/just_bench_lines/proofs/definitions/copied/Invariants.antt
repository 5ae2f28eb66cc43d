use Rattle.std.proofs.Common.{◌≡◌, take}
use Rattle.just_bench_lines.proofs.definitions.copied.Given as goal

abbrev pub invariant-loop-expression : goal.invariant-loop-expression
invariant-loop-expression l = l.copies ≡ take l.expression-index l.expressions
