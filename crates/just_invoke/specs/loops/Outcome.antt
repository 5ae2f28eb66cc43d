-- What private functions say beside `Outcome.antt`.
use Rattle.std.specs.Prelude.{◌≡◌, ◌<◌, ℕ, Bool, true, List, map}
use Rattle.just_recipe.specs.declared.dependency.Dependency.{Dependency}
use Rattle.just_errors.specs.declared.error.Error.{Error}
use Rattle.just_errors.specs.declared.error.Error.TheVariants.{Run}
use Rattle.just_errors.specs.declared.run_error.RunError.TheVariants.{ExcessInvocations}
use Rattle.just_recipe.specs.declared.recipe.Recipe.{Recipe}
use Rattle.just_tasks.specs.declared.task.Task.{Task}
use Rattle.just_invocations.specs.declared.invocation.Invocation as parsed
use Rattle.just_invocations.specs.Split.{invoked_of}
use Rattle.just_invoke.specs.Outcome.{refused, tops}

abbrev pub tops_of : List (Recipe Dependency) → List parsed.Invocation → List Task
tops_of recipes invocations = tops recipes (map invoked_of invocations)

-- for the private functions: so many invocations are refused where one alone is allowed
abbrev pub IsExcess : Bool → ℕ → Error → Type 0
IsExcess one count e = (one ≡ true) × (1 < count) × (e ≡ Run (ExcessInvocations count))
