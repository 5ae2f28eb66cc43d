use Rattle.std.proofs.Common.{◌≡◌, ◌+◌, drop}
use Rattle.std.specs.Option.{option_map}
use Rattle.just_bench_lines.specs.Body.{twice_at}
use Rattle.just_bench_lines.proofs.body.twice_at.Given as goal

abbrev pub invariant-loop-at : goal.invariant-loop-at
invariant-loop-at l = twice_at l.byte l.bytes ≡ option_map (λ n. l.at + n) (twice_at l.byte (drop l.at l.bytes))
