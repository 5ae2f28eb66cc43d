-- What a run of command words comes to.
use Rattle.std.specs.Prelude.{◌≡◌, ◌<◌, ◌≤◌, ℕ, Bool, true, false, List, map, length, Option, Some, Result, Err}
use Rattle.just_run_layers.specs.Interactions.{Log, executed_in}
use Rattle.just_recipe.specs.declared.dependency.Dependency.{Dependency}
use Rattle.just_parts.specs.declared.layers.config.Config.{Config}
use Rattle.just_errors.specs.declared.error.Error.{Error}
use Rattle.just_errors.specs.declared.error.Error.TheVariants.{Run, Memory}
use Rattle.just_errors.specs.declared.run_error.RunError.TheVariants.{ExcessInvocations}
use Rattle.just_errors.specs.declared.halt.Halt.{Halt}
use Rattle.just_run_layers.specs.declared.host.Entry.{Entry}
use Rattle.just_recipe.specs.declared.recipe.Recipe.{Recipe}
use Rattle.just_errors.specs.Halts.{come_to, error_of}
use Rattle.just_run_layers.specs.Evaluation.{Inquiry}
use Rattle.just_run_layers.specs.Host.{Answer}
use Rattle.just_execution.specs.declared.run.Report.{Report}
use Rattle.just_tasks.specs.declared.task.Task.{Task}
use Rattle.just_tasks.specs.Pairs.{task}
use Rattle.just_recipes.specs.Places.{place_of}
use Rattle.just_execution.specs.Reports.{IsRun, HasRunTrace}
use Rattle.just_tasks.specs.Scene.{running}
use Rattle.just_scopes.specs.Open.{Opens}
use Rattle.just_scopes.specs.Opening.{Opened, Setup, scene_of}
use Rattle.just_justfile.specs.declared.justfile.Justfile.{Justfile}
use Rattle.just_invocations.specs.Cause.{InvocationFault, cause_of}
use Rattle.just_invocations.specs.Split.{Counts, Invoked, IsSplit, HasWordsFault}
use Rattle.just_invoke.specs.Whole.{HasOpened, IsWholeRun}

-- the task of what is invoked: it does not run as a dependency
abbrev pub top : List (Recipe Dependency) → Invoked → Task
top recipes i = task false (record { recipe = place_of recipes i.recipe.number.0; groups = i.groups })

-- the tasks that are run
abbrev pub tops : List (Recipe Dependency) → List Invoked → List Task
tops recipes invoked = map (top recipes) invoked

-- Why words are not run, where one invocation alone is allowed or not: they have a fault; they are several; or memory is refused.
pub data IsRunRefusal (counts : Counts) (root : Justfile) (recipes : List (Recipe Dependency)) (words : List (List ℕ)) (one : Bool) : Error → Type 0 where
  fault : (e : Error) (c : InvocationFault) → cause_of e ≡ Some c → HasWordsFault counts root recipes words c → IsRunRefusal counts root recipes words one e
  excess : (invoked : List Invoked) → IsSplit counts root recipes words invoked → one ≡ true → 1 < length invoked →
      IsRunRefusal counts root recipes words one (Run (ExcessInvocations (length invoked)))
  memory : IsRunRefusal counts root recipes words one Memory

-- words that may be run: they are these invocations, one where one alone is allowed
pub record IsRunnable (counts : Counts) (root : Justfile) (recipes : List (Recipe Dependency)) (words : List (List ℕ)) (one : Bool) (invoked : List Invoked) : Type 0 where
  pub split : IsSplit counts root recipes words invoked
  pub few : one ≡ true → length invoked ≤ 1

-- The words are refused, and the log is as it was; or they may be run, and the modules are opened: they do not open, and nothing is executed; or they do, and then the steps of the run were taken in them.
pub data IsOutcome (counts : Counts) (root : Justfile) (recipes : List (Recipe Dependency)) (words : List (List ℕ)) (config : Config) (setup : Setup)
    (evaluator : Inquiry → Option Answer) (host : Entry → Option Answer) (old new : Log) (result : Result Report Error) : Type 0 where
  refused : (e : Error) → result ≡ Err e → IsRunRefusal counts root recipes words config.one e → new ≡ old → IsOutcome counts root recipes words config setup evaluator host old new result
  shut : (invoked : List Invoked) (e : Halt) → IsRunnable counts root recipes words config.one invoked → result ≡ Err (error_of e) →
      Opens evaluator host setup root recipes (tops recipes invoked) old new (Err e) → executed_in new ≡ executed_in old →
      IsOutcome counts root recipes words config setup evaluator host old new result
  ran : (invoked : List Invoked) (opened : List Opened) (mid : Log) (ended : Result Report Halt) → IsRunnable counts root recipes words config.one invoked → result ≡ come_to ended →
      HasOpened evaluator host setup root recipes (tops recipes invoked) old mid opened →
      IsRun (running setup.handed.config.no_dependencies recipes) (tops recipes invoked) mid new ended →
      HasRunTrace evaluator host (scene_of setup recipes opened) (tops recipes invoked) mid new ended →
      IsOutcome counts root recipes words config setup evaluator host old new result

-- for promised answers: words that may be run are, as is expected
abbrev pub RunsAsExpected : Counts → Justfile → List (Recipe Dependency) → List (List ℕ) → Config → Setup → (Inquiry → Option Answer) → (Entry → Option Answer) → Log → Log → Result Report Error → Type 0
RunsAsExpected counts root recipes words config setup evaluator host old new result =
    (invoked : List Invoked) → IsRunnable counts root recipes words config.one invoked →
    (ended : Result Report Halt) × (result ≡ come_to ended) × IsWholeRun evaluator host setup root recipes (tops recipes invoked) old new ended
