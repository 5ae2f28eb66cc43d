use Rattle.std.proofs.Common.{◌≡◌, map, take}
use Rattle.just_bench_evaluation.specs.Lines.{quoted}
use Rattle.just_bench_evaluation.proofs.lines.displayed.Given as goal

abbrev pub invariant-loop-text : goal.invariant-loop-text
invariant-loop-text l = l.texts ≡ map quoted (take l.text-index l.value)
