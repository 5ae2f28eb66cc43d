-- What a run of tasks comes to.
use Rattle.std.specs.Prelude.{◌≡◌, ◌⊎◌, ℕ, List, [], length, Option, Result, Ok, Err}
use Rattle.just_graph.specs.Members.{In}
use Rattle.just_recipe.specs.declared.dependency.Dependency.{Dependency}
use Rattle.just_errors.specs.declared.halt.Halt.{Halt}
use Rattle.just_errors.specs.declared.halt.Halt.TheVariants.{Memory, Exhausted}
use Rattle.just_run_layers.specs.declared.host.Entry.{Entry}
use Rattle.just_recipe.specs.declared.recipe.Recipe.{Recipe}
use Rattle.just_errors.specs.Halts.{discard_value}
use Rattle.just_run_layers.specs.Evaluation.{Inquiry}
use Rattle.just_run_layers.specs.Host.{Answer}
use Rattle.just_run_layers.specs.Interactions.{Log, Question, Interaction, HasTrace, both, trace_under, result_under, ArePromised, IsTraceOrPrefix}
use Rattle.just_execution.specs.declared.run.Report.{Report}
use Rattle.just_tasks.specs.declared.task.Task.{Task}
use Rattle.just_execution.specs.Account.{OnceTables, HasAccount, SaysOfTables}
use Rattle.just_execution.specs.Expansion.{Prepare}
use Rattle.just_execution.specs.TaskInteractions.{interactions_of}
use Rattle.just_tasks.specs.Pairs.{AllBelow}
use Rattle.just_execution.specs.Run.{run_parts, run_steps, PriorsIgnoreFlag}
use Rattle.just_tasks.specs.Scene.{Scene}
use Rattle.just_execution.specs.Walking.{TaskInteractions, fresh_steps, walk_steps}

-- the counts of a run that succeeds
abbrev pub calls_in : Result Report Halt → Result (List ℕ) Halt
calls_in (Ok report) = Ok report.calls.items
calls_in (Err e) = Err e

-- for every host, a run of these tasks has an account, and its result says of it what it tells
pub record IsRun (recipes : List (Recipe Dependency)) (tops : List Task) (old new : Log) (result : Result Report Halt) : Type 0 where
  pub tables : OnceTables
  pub account : HasAccount recipes old new tops tables
  pub tells : SaysOfTables recipes tops tables (calls_in result)

-- for every host, the steps of a run of these tasks were taken
abbrev pub HasRunTrace : (Inquiry → Option Answer) → (Entry → Option Answer) → Scene → List Task → Log → Log → Result Report Halt → Type 0
HasRunTrace evaluator host scene tops old new result =
    HasTrace (both evaluator host) (fresh_steps (walk_steps (interactions_of scene) (length scene.recipes)) tops []) old new (calls_in result)

-- the expected run of tasks under answers f: as much fuel as there are recipes suffices
abbrev pub expected_steps : Scene → (Question → Answer) → List Task → Interaction (Unit {0})
expected_steps scene f tops = run_steps (interactions_of scene) f (length scene.recipes) tops

-- with so much fuel, or more, the expected run of tasks of these recipes is whole
abbrev pub IsEnough : Scene → ℕ → Type 0
IsEnough scene n = (f : Question → Answer) (tops : List Task) → AllBelow (length scene.recipes) tops → run_steps (interactions_of scene) f n tops ≡ expected_steps scene f tops

-- Where the answers f are promised to all that the expected run of these tasks asks, and priors do not hang on how a task is called,
-- exactly that run is made, up to its first failing step; where memory or a count is refused, a beginning of it.
abbrev pub TasksRunAsExpected : (Inquiry → Option Answer) → (Entry → Option Answer) → Scene → List Task → Log → Log → Result Report Halt → Type 0
TasksRunAsExpected evaluator host scene tops old new result =
    (f : Question → Answer) → ArePromised (both evaluator host) f (trace_under f (expected_steps scene f tops)) → PriorsIgnoreFlag (interactions_of scene) f (length scene.recipes) tops →
    IsTraceOrPrefix (trace_under f (expected_steps scene f tops)) (result_under f (expected_steps scene f tops)) old new (discard_value result)

-- in the expected run of these tasks, a task is the one that asks for its pair, and alone does so
pub record IsFirstAsked (of_task : TaskInteractions) (f : Question → Answer) (n : ℕ) (tops : List Task) (t : Task) : Type 0 where
  pub asked : In (Prepare t) (run_parts of_task f n tops)
  pub alone : (u : Task) → In (Prepare u) (run_parts of_task f n tops) → u.pair ≡ t.pair → u ≡ t

-- memory or a count was refused
abbrev pub IsResourceError : {A : Type 0} → Result A Halt → Type 0
IsResourceError result = (result ≡ Err Memory) ⊎ (result ≡ Err Exhausted)

-- two ends are one where neither of them is a refusal of memory or of a number
abbrev pub AgreeUnlessResourceError : {A : Type 0} → Result A Halt → Result A Halt → Log → Log → Type 0
AgreeUnlessResourceError a b new last = (IsResourceError a → ⊥) → (IsResourceError b → ⊥) → (new ≡ last) × (a ≡ b)
