use Rattle.std.proofs.Common.{sym, ◌∙◌, subst, drop}
use Rattle.std.specs.List.{All, Contains}
use Rattle.std.proofs.lemmas.List.Elements.{All-drop}
use Rattle.just_recipe.specs.declared.dependency.Dependency.{Dependency}
use Rattle.just_recipe.specs.Recipes.{numbers}
use Rattle.just_tasks.proofs.Places.{IsBefore, at-place, read-at, needs-before, dependencies-held}
use Rattle.just_tasks.proofs.recipes.subsequents_at.Goals as goal

pub returns-clause-is : goal.returns-clause-is
returns-clause-is c =
    let here = read-at c.as_slice.result.now c.args.recipes.now c.args.place c.index-as_slice-place.result c.as_slice.ensures c.requires.place c.index-as_slice-place.is in
    c.subsequents.ensures ∙ sym (at-place (λ r. drop r.priors r.dependencies) c.args.recipes.now c.args.place c.index-as_slice-place.result here)

pub returns-clause-held : goal.returns-clause-held
returns-clause-held c =
    let here = read-at c.as_slice.result.now c.args.recipes.now c.args.place c.index-as_slice-place.result c.as_slice.ensures c.requires.place c.index-as_slice-place.is in
    let all = needs-before c.args.recipes.now c.args.place c.index-as_slice-place.result c.are_ordered.ensures here in
    subst (λ ds. All (λ (d : Dependency). Contains (numbers c.args.recipes.now) d.recipe.0) ds) (sym c.subsequents.ensures)
    (dependencies-held c.args.recipes.now c.args.place (drop c.index-as_slice-place.result.priors c.index-as_slice-place.result.dependencies) (All-drop (IsBefore c.args.recipes.now c.args.place) c.index-as_slice-place.result.priors c.index-as_slice-place.result.dependencies all))
