use Rattle.just_bench_lines.proofs.Closing.{Closing}
use Rattle.just_bench_lines.proofs.body.close_at.Given as goal

abbrev pub invariant-loop-at : goal.invariant-loop-at
invariant-loop-at l = Closing l.bytes l.at l.quoted
