use Rattle.std.proofs.Common.{map}
use Rattle.std.specs.List.{Contains}
use Rattle.just_names.specs.Texts.{texts}
use Rattle.just_bench_bundle.proofs.places.path_in.Given as goal

abbrev pub invariant-loop-other : goal.invariant-loop-other
invariant-loop-other l = Contains (texts (map (λ k. k.now) l.yielded)) l.path → ⊥
