use Rattle.just_bench_expressions.proofs.Cuts.{Cut}
use Rattle.just_bench_expressions.proofs.lines.lines.Given as goal

abbrev pub invariant-loop-end : goal.invariant-loop-end
invariant-loop-end l = Cut l.text l.all l.start l.end
