use Rattle.just_bench_syntax.proofs.Distinct.{Begun}
use Rattle.just_bench_syntax.proofs.sigils.sigils.Given as goal

abbrev pub invariant-loop-byte : goal.invariant-loop-byte
invariant-loop-byte l = Begun l.byte-items l.byte-index l.found
