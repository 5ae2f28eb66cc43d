-- Recipes by their places.
use Rattle.std.specs.Prelude.{ℕ, suc, ◌==◌, cond, List, [], ◌∷◌}
use Rattle.just_recipe.specs.declared.dependency.Dependency.{Dependency}
use Rattle.just_recipe.specs.declared.recipe.Recipe.{Recipe}

-- the place of the first recipe of a number, and the length of the list where there is none
abbrev pub place_of : List (Recipe Dependency) → ℕ → ℕ
place_of [] number = 0
place_of (r ∷ rs) number = cond (r.number.0 == number) 0 (suc (place_of rs number))
