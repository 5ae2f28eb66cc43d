use Rattle.std.proofs.Common.{◌≡◌, length}
use Rattle.just_bench_syntax.specs.Recipe.{with_options}
use Rattle.just_bench_syntax.proofs.InPlace.{half}
use Rattle.just_bench_syntax.proofs.recipe.give_all.Given as goal

abbrev pub invariant-loop-place : goal.invariant-loop-place
invariant-loop-place l = record {
  count : length l.parameters.items ≡ length l.initial.parameters.items;
  given : l.parameters.items ≡ half (with_options l.spoken) l.initial.parameters.items l.place;
}
