use Rattle.std.specs.Str.Iter.{split_inclusive_text, split_inclusive_pattern}
use Rattle.std.proofs.Common.{◌≡◌, ◌∷◌}
use Rattle.just_bench_bundle.specs.Bundle.{mark}
use Rattle.just_bench_bundle.proofs.Parts.{Taken}
use Rattle.just_bench_bundle.proofs.bundle.read_sources.Given as goal

abbrev pub invariant-loop-part : goal.invariant-loop-part
invariant-loop-part l = record {
  pattern : (split_inclusive_pattern l.part-iterator).now ≡ 10 ∷ mark;
  taken : Taken l.text (split_inclusive_text l.part-iterator) l.line l.sources;
}
