-- What private functions say beside `Need.antt`.
use Rattle.std.specs.Prelude.{◌≡◌, ◌↔◌, ℕ, Bool, true, List, Some}
use Rattle.std.specs.List.{Contains, slice_get}
use Rattle.just_tasks.specs.Leading.{LeadTo}
use Rattle.just_tasks.specs.declared.task.Task.{Task}
use Rattle.just_names.specs.declared.number.Number.{Number}
use Rattle.just_recipe.specs.declared.dependency.Dependency.{Dependency}
use Rattle.just_recipe.specs.declared.recipe.Recipe.{Recipe}

-- for the private functions: the numbers that recipes have to which tasks lead
pub record IsUsed (recipes : List (Recipe Dependency)) (tops : List Task) (n : Number) : Type 0 where
  pub place : ℕ
  pub recipe : Recipe Dependency
  pub led : LeadTo recipes tops place
  pub at : slice_get recipes place ≡ Some recipe
  pub there : Contains recipe.variable_references n

abbrev pub AreUsed : List (Recipe Dependency) → List Task → (Number → Bool) → Type 0
AreUsed recipes tops used = (n : Number) → (used n ≡ true) ↔ IsUsed recipes tops n
