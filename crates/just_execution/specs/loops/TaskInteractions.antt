-- What private functions say beside `TaskInteractions.antt`.
use Rattle.std.specs.Prelude.{Option, Result, Ok, Err}
use Rattle.just_errors.specs.declared.halt.Halt.{Halt}
use Rattle.just_run_layers.specs.declared.host.Entry.{Entry}
use Rattle.just_run_layers.specs.Evaluation.{Inquiry}
use Rattle.just_run_layers.specs.Host.{Answer}
use Rattle.just_run_layers.specs.Interactions.{Log, HasTrace, both}
use Rattle.just_execution.specs.declared.questions.Preparation.{Preparation}
use Rattle.just_tasks.specs.declared.task.Task.{Task}
use Rattle.just_tasks.specs.Scene.{Scene}
use Rattle.just_execution.specs.Walking.{Prepared}
use Rattle.just_execution.specs.TaskInteractions.{ask_steps}

-- for the private functions: what asking came to
abbrev pub prepared_as : Preparation → Prepared
prepared_as p = record { held = p.held; priors = p.priors.items }

abbrev pub prepared_of : Result Preparation Halt → Result Prepared Halt
prepared_of (Ok p) = Ok (prepared_as p)
prepared_of (Err e) = Err e

-- the questions before the priors
abbrev pub Prepares : (Inquiry → Option Answer) → (Entry → Option Answer) → Scene → Task → Log → Log → Result Prepared Halt → Type 0
Prepares evaluator host scene task old new result = HasTrace (both evaluator host) (ask_steps scene task) old new result
