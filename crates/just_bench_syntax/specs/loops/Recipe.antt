-- What private functions say beside `Recipe.antt`.
use Rattle.std.specs.Prelude.{ℕ, List, map}
use Rattle.just_bench_syntax.specs.declared.recipe.Spoken.{Spoken}

abbrev pub spoken_of : List Spoken → List (List ℕ)
spoken_of = map (λ (s : Spoken). s.options.parameter)
