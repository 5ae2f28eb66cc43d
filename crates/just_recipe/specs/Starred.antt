-- Dependencies that stand for one with each of an argument's values.
use Rattle.std.specs.Prelude.{Bool, List}
use Rattle.std.specs.List.{list_any}
use Rattle.just_recipe.specs.declared.dependency.DependencyArgument.{DependencyArgument}

-- an argument is starred
abbrev pub has_star : List DependencyArgument → Bool
has_star arguments = list_any (λ (a : DependencyArgument). a.starred) arguments
