-- What private functions say beside `Resolved.antt`.
use Rattle.std.specs.Prelude.{◌≡◌, List}
use Rattle.just_module_recipes.specs.Completed.{with_needed}
use Rattle.just_module_recipes.specs.Completing.{Completion}
use Rattle.just_names.specs.declared.number.Number.{Number}
use Rattle.just_recipe.specs.declared.dependency.UnresolvedDependency.{UnresolvedDependency}
use Rattle.just_recipe.specs.declared.recipe.Recipe.{Recipe}

-- A recipe is completed, and has the numbers of the variables that it needs.
pub record IsCompleted (completed : Completion) (r made : Recipe UnresolvedDependency) : Type 0 where
  pub numbers : List Number
  pub needed : completed.Needs r numbers
  pub made_is : made ≡ with_needed (completed.by r) numbers
