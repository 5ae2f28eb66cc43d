use Rattle.std.proofs.Common.{sym, ◌∙◌, ap, subst}
use Rattle.std.specs.List.{All, Contains}
use Rattle.just_recipe.specs.declared.dependency.Dependency.{Dependency}
use Rattle.just_recipe.specs.declared.recipe.Recipe.{Recipe}
use Rattle.just_recipe.specs.Recipes.{numbers}
use Rattle.just_tasks.proofs.Places.{at-place, read-at, needs-before, dependencies-held}
use Rattle.just_tasks.proofs.recipes.dependencies_at.Goals as goal

pub returns : goal.returns
returns c =
    let here = read-at c.as_slice.result.now c.args.recipes.now c.args.place c.index-as_slice-place.result c.as_slice.ensures c.requires c.index-as_slice-place.is in
    let own = c.as_slice-2.ensures ∙ ap (λ (r : Recipe Dependency). r.dependencies) (sym c.index-as_slice-place.is) in
    record {
      is = own ∙ sym (at-place (λ r. r.dependencies) c.args.recipes.now c.args.place c.index-as_slice-place.result here);
      held = subst (λ ds. All (λ (d : Dependency). Contains (numbers c.args.recipes.now) d.recipe.0) ds) (sym own)
          (dependencies-held c.args.recipes.now c.args.place c.index-as_slice-place.result.dependencies (needs-before c.args.recipes.now c.args.place c.index-as_slice-place.result c.are_ordered.ensures here));
    }
