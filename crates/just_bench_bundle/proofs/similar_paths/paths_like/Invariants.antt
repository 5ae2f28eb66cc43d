use Rattle.std.proofs.Common.{◌≡◌, map}
use Rattle.std.specs.List.{filter}
use Rattle.just_bench_bundle.specs.Near.{are_alike}
use Rattle.just_bench_bundle.proofs.similar_paths.paths_like.Given as goal

abbrev pub invariant-loop-other : goal.invariant-loop-other
invariant-loop-other l = l.paths ≡ filter (are_alike l.path) (map (λ k. k.now) (map (λ k. k.now) l.yielded))
