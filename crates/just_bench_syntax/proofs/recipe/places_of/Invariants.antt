use Rattle.std.specs.HashMap.{get}
use Rattle.std.specs.Str.{bytes_eq}
use Rattle.just_bench_syntax.proofs.Spoken.{Looked}
use Rattle.just_bench_syntax.proofs.recipe.places_of.Given as goal

abbrev pub invariant-loop-place : goal.invariant-loop-place
invariant-loop-place l = Looked l.parameters l.spoken (get bytes_eq l.places) l.place
