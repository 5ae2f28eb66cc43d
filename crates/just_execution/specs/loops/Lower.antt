-- The tasks that a task leads to stand at lower places.
use Rattle.std.specs.Prelude.{List}
use Rattle.just_run_layers.specs.Interactions.{CanReturn}
use Rattle.just_tasks.specs.declared.task.Task.{Task}
use Rattle.just_tasks.specs.Pairs.{AllBelow}
use Rattle.just_run_layers.specs.declared.held.Held.{Held}
use Rattle.just_execution.specs.Walking.{TaskInteractions, Prepared}

-- whatever is answered, priors and subsequents are tasks of recipes that stand before that of the task
pub record IsLower (of_task : TaskInteractions) : Type 0 where
  pub priors : (t : Task) (a : Prepared) → CanReturn (of_task.ask t) a → AllBelow t.pair.recipe a.priors
  pub subsequents : (t : Task) (h : Held) (ts : List Task) → CanReturn (of_task.follow t h) ts → AllBelow t.pair.recipe ts
