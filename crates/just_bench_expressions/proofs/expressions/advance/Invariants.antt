use Rattle.std.proofs.Common.{length, drop, ◌-◌}
use Rattle.just_bench_expressions.specs.Expressions.{read, read_end}
use Rattle.just_bench_expressions.proofs.Ending.{Ending}
use Rattle.just_bench_expressions.proofs.Reading.{Reading}
use Rattle.just_bench_expressions.proofs.expressions.advance.Given as goal

abbrev pub invariant-loop-at : goal.invariant-loop-at
invariant-loop-at l = record {
  reading : Reading l.sums l.lexemes (read l.sums l.lexemes l.start l.fn.state (drop l.start l.lexemes)) l.at l.state;
  ending : Ending l.sums l.lexemes (read_end l.sums l.lexemes l.start l.fn.state (drop l.start l.lexemes)) l.at l.state;
}

abbrev pub decreases-loop-at : goal.decreases-loop-at
decreases-loop-at l = length l.lexemes - l.at
