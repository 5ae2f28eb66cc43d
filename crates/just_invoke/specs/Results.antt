-- For the private functions: what the run of tasks comes to.
use Rattle.std.specs.Prelude.{◌≡◌, List, Option, Result, Err}
use Rattle.just_errors.specs.Halts.{come_to, error_of}
use Rattle.just_errors.specs.declared.error.Error.{Error}
use Rattle.just_errors.specs.declared.error.Error.TheVariants.{Memory}
use Rattle.just_errors.specs.declared.halt.Halt.{Halt}
use Rattle.just_execution.specs.Reports.{TasksRunAsExpected, IsRun, HasRunTrace}
use Rattle.just_tasks.specs.Scene.{Scene, running}
use Rattle.just_execution.specs.declared.run.Report.{Report}
use Rattle.just_tasks.specs.declared.task.Task.{Task}
use Rattle.just_justfile.specs.declared.justfile.Justfile.{Justfile}
use Rattle.just_recipe.specs.declared.dependency.Dependency.{Dependency}
use Rattle.just_recipe.specs.declared.recipe.Recipe.{Recipe}
use Rattle.just_run_layers.specs.Evaluation.{Inquiry}
use Rattle.just_run_layers.specs.Host.{Answer}
use Rattle.just_run_layers.specs.Interactions.{Log, executed_in}
use Rattle.just_run_layers.specs.declared.host.Entry.{Entry}
use Rattle.just_scopes.specs.Open.{Opens}
use Rattle.just_scopes.specs.Opening.{Opened, Setup, scene_of}
use Rattle.just_invoke.specs.Whole.{HasOpened}

-- a run in a scene: its steps were taken, and it is as is expected
pub record RunsInScene (evaluator : Inquiry → Option Answer) (host : Entry → Option Answer) (scene : Scene) (ts : List Task) (old new : Log) (ended : Result Report Halt) : Type 0 where
  pub taken : HasRunTrace evaluator host scene ts old new ended
  pub expected : TasksRunAsExpected evaluator host scene ts old new ended

-- tasks are not run for want of memory, and the log is as it was; the modules do not open; or they do, and the tasks are run in them
pub data RunEndsAs (evaluator : Inquiry → Option Answer) (host : Entry → Option Answer) (setup : Setup) (root : Justfile) (recipes : List (Recipe Dependency)) (ts : List Task) (old new : Log) (result : Result Report Error) : Type 0 where
  out : result ≡ Err Memory → new ≡ old → RunEndsAs evaluator host setup root recipes ts old new result
  shut : (e : Halt) → result ≡ Err (error_of e) → Opens evaluator host setup root recipes ts old new (Err e) → executed_in new ≡ executed_in old →
      RunEndsAs evaluator host setup root recipes ts old new result
  ran : (opened : List Opened) (mid : Log) (ended : Result Report Halt) → result ≡ come_to ended → HasOpened evaluator host setup root recipes ts old mid opened →
      IsRun (running setup.handed.config.no_dependencies recipes) ts mid new ended → RunsInScene evaluator host (scene_of setup recipes opened) ts mid new ended → RunEndsAs evaluator host setup root recipes ts old new result
