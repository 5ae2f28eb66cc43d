use Rattle.std.proofs.Common.{◌≡◌, map, take}
use Rattle.just_recipe.specs.declared.dependency.Dependency.{Dependency}
use Rattle.just_recipes.specs.Places.{place_of}
use Rattle.just_tasks.specs.Pairs.{needed}
use Rattle.just_scopes.proofs.uses.row_of.Given as goal

abbrev pub invariant-loop-dependency : goal.invariant-loop-dependency
invariant-loop-dependency l = l.row.items ≡ map (λ (d : Dependency). place_of l.recipes d.recipe.0) (take l.dependency-index (needed l.recipes l.place))
