use Rattle.std.proofs.Common.{◌≡◌, drop}
use Rattle.just_bench_values.specs.Sink.{sent}
use Rattle.just_bench_values.proofs.sink.send_all.Given as goal

abbrev pub invariant-loop-text : goal.invariant-loop-text
invariant-loop-text l = sent l.sink (drop l.text-index l.texts) ≡ sent l.initial.sink l.texts
