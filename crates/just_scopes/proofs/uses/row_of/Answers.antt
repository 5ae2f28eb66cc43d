use Rattle.std.proofs.Common.{sym, subst}
use Rattle.std.specs.List.{Contains}
use Rattle.just_recipe.specs.Recipes.{numbers}
use Rattle.just_recipe.specs.declared.dependency.Dependency.{Dependency}
use Rattle.just_scopes.proofs.uses.row_of.Goals as goal

pub place_in-requires : goal.place_in-requires
place_in-requires c =
    subst (λ (d : Dependency). Contains (numbers c.args.recipes.now) d.recipe.0) (sym c.dependency-item.is)
    (c.dependencies_at-dependency-items.ensures.held c.loop-dependency.dependency-index c.dependency-item.result c.loop-dependency-test.true)
