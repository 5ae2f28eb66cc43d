-- A run of tasks, from the steps that it takes.
use Rattle.std.proofs.Common.{◌≡◌, List, [], length, Option, Ok, Err, refl, subst}
use Rattle.std.specs.Prelude.{Result}
use Rattle.just_errors.specs.declared.halt.Halt.{Halt}
use Rattle.just_run_layers.specs.declared.host.Entry.{Entry}
use Rattle.just_errors.specs.Halts.{discard_value}
use Rattle.just_run_layers.specs.Evaluation.{Inquiry}
use Rattle.just_run_layers.specs.Host.{Answer}
use Rattle.just_run_layers.specs.Interactions.{Log, both, trace_under, result_under, IsTraceOrPrefix}
use Rattle.just_execution.specs.declared.run.Report.{Report}
use Rattle.just_tasks.specs.declared.task.Task.{Task}
use Rattle.just_execution.specs.TaskInteractions.{interactions_of}
use Rattle.just_tasks.specs.Pairs.{AllBelow}
use Rattle.just_recipe.specs.Recipes.{DependenciesStandFirst}
use Rattle.just_execution.specs.Reports.{calls_in, IsRun, TasksRunAsExpected, HasRunTrace, expected_steps}
use Rattle.just_tasks.specs.Scene.{Scene}
use Rattle.just_execution.specs.Walking.{fresh_steps, walk_steps}
use Rattle.just_execution.proofs.Accounted.{fresh-account}
use Rattle.just_execution.proofs.TaskInteractions.{leaves-lower}
use Rattle.just_execution.proofs.Told.{took-run}
use Rattle.just_execution.proofs.Whole.{fresh-run}

without-calls : (r : Result Report Halt) → discard_value (calls_in r) ≡ discard_value r
without-calls (Ok report) = refl
without-calls (Err e) = refl

module _ (scene : Scene) (ordered : DependenciesStandFirst scene.recipes) (e : Inquiry → Option Answer) (h : Entry → Option Answer) (tops : List Task) (below : AllBelow (length scene.recipes) tops) (old new : Log) (r : Result Report Halt)
    (took : HasRunTrace e h scene tops old new r) where
  pub account-run : IsRun scene.recipes tops old new r
  account-run = let a = fresh-account scene ordered (both e h) tops below old new (calls_in r) took in record { tables = a.0; account = a.1; tells = a.2 }

  pub expected-run : TasksRunAsExpected e h scene tops old new r
  expected-run = λ f steady even.
      let steps = expected_steps scene f tops in
      subst (IsTraceOrPrefix (trace_under f steps) (result_under f steps) old new) (without-calls r)
      (took-run (both e h) f (fresh_steps (walk_steps (interactions_of scene) (length scene.recipes)) tops []) steps old new (calls_in r)
      (fresh-run (interactions_of scene) (leaves-lower scene ordered) f (length scene.recipes) tops [] below even) steady took)
