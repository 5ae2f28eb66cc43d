-- What private functions say beside `Results.antt`.
use Rattle.std.specs.Prelude.{◌≡◌, ◌⊎◌, List, Option, Result, Err}
use Rattle.just_errors.specs.declared.error.Error.TheVariants.{Memory}
use Rattle.just_errors.specs.declared.halt.Halt.{Halt}
use Rattle.just_errors.specs.declared.halt.Halt.TheVariants as halt
use Rattle.just_execution.specs.Reports.{IsRun}
use Rattle.just_tasks.specs.Scene.{running}
use Rattle.just_execution.specs.declared.run.Report.{Report}
use Rattle.just_tasks.specs.declared.task.Task.{Task}
use Rattle.just_recipe.specs.declared.dependency.Dependency.{Dependency}
use Rattle.just_recipe.specs.declared.recipe.Recipe.{Recipe}
use Rattle.just_run_layers.specs.Evaluation.{Inquiry}
use Rattle.just_run_layers.specs.Host.{Answer}
use Rattle.just_run_layers.specs.Interactions.{Log}
use Rattle.just_run_layers.specs.declared.host.Entry.{Entry}
use Rattle.just_scopes.specs.Opening.{Opened, Setup, scene_of}
use Rattle.just_invoke.specs.Results.{RunsInScene}

-- in open modules tasks are not run for want of memory, and the log is as it was; or they are
abbrev pub RunsOpen : (Inquiry → Option Answer) → (Entry → Option Answer) → Setup → List (Recipe Dependency) → List Opened → List Task → Log → Log → Result Report Halt → Type 0
RunsOpen evaluator host setup recipes opened ts old new ended =
    ((ended ≡ Err halt.Memory) × (new ≡ old))
    ⊎ (IsRun (running setup.handed.config.no_dependencies recipes) ts old new ended × RunsInScene evaluator host (scene_of setup recipes opened) ts old new ended)
