-- The whole run: the modules are opened, and then the tasks run in them.
use Rattle.std.specs.Prelude.{◌≡◌, List, length, Option, Result, Ok}
use Rattle.just_errors.specs.Halts.{discard_value}
use Rattle.just_errors.specs.declared.halt.Halt.{Halt}
use Rattle.just_execution.specs.TaskInteractions.{interactions_of}
use Rattle.just_execution.specs.Reports.{expected_steps}
use Rattle.just_execution.specs.Run.{PriorsIgnoreFlag}
use Rattle.just_execution.specs.declared.run.Report.{Report}
use Rattle.just_tasks.specs.declared.task.Task.{Task}
use Rattle.just_justfile.specs.declared.justfile.Justfile.{Justfile}
use Rattle.just_recipe.specs.declared.dependency.Dependency.{Dependency}
use Rattle.just_recipe.specs.declared.recipe.Recipe.{Recipe}
use Rattle.just_run_layers.specs.Evaluation.{Inquiry}
use Rattle.just_run_layers.specs.Host.{Answer}
use Rattle.just_run_layers.specs.Interactions.{IsTraceOrPrefix, ArePromised, Log, Question, Interaction, and_then, both, executed_in, result_under, trace_under}
use Rattle.just_run_layers.specs.declared.host.Entry.{Entry}
use Rattle.just_scopes.specs.Need.{AreNeeds, NumberSets}
use Rattle.just_scopes.specs.Open.{AreOpenModules, Opens}
use Rattle.just_scopes.specs.Opening.{Opened, Setup, all_opened, scene_of}
use Rattle.just_scopes.specs.Preorder.{IsPreorder, Placed}

-- For every host: the modules were opened for tasks, in which nothing was executed; whatever a recipe reads to which the tasks lead has its value.
pub record HasOpened (evaluator : Inquiry → Option Answer) (host : Entry → Option Answer) (setup : Setup) (root : Justfile) (recipes : List (Recipe Dependency)) (ts : List Task) (old mid : Log) (opened : List Opened) : Type 0 where
  pub steps : Opens evaluator host setup root recipes ts old mid (Ok opened)
  pub are : AreOpenModules setup.syntax root recipes ts opened
  pub unexecuted : executed_in mid ≡ executed_in old

-- the whole run under answers f, by sets of what is needed and the modules in order
abbrev pub whole_steps : NumberSets → Setup → List (Recipe Dependency) → List Placed → (Question → Answer) → List Task → Interaction (Unit {0})
whole_steps sets setup recipes ps f ts = and_then (all_opened sets setup.handed ps) (λ opened. expected_steps (scene_of setup recipes opened) f ts)

-- in the scene to which the answers lead, priors do not hang on how a task is called
abbrev pub PriorsIgnoreFlagIn : NumberSets → Setup → List (Recipe Dependency) → List Placed → (Question → Answer) → List Task → Type 0
PriorsIgnoreFlagIn sets setup recipes ps f ts =
    (opened : List Opened) → result_under f (all_opened sets setup.handed ps) ≡ Ok opened → PriorsIgnoreFlag (interactions_of (scene_of setup recipes opened)) f (length (scene_of setup recipes opened).recipes) ts

-- For promised answers: where the answers f are promised to all that the whole run asks, exactly that run is made, up to its first failing step; where memory or a count is refused, a beginning of it.
abbrev pub IsWholeRun : (Inquiry → Option Answer) → (Entry → Option Answer) → Setup → Justfile → List (Recipe Dependency) → List Task → Log → Log → Result Report Halt → Type 0
IsWholeRun evaluator host setup root recipes ts old new ended =
    (sets : NumberSets) → AreNeeds setup.syntax root recipes ts sets → (ps : List Placed) → IsPreorder root ps → (f : Question → Answer) →
    ArePromised (both evaluator host) f (trace_under f (whole_steps sets setup recipes ps f ts)) → PriorsIgnoreFlagIn sets setup recipes ps f ts →
    IsTraceOrPrefix (trace_under f (whole_steps sets setup recipes ps f ts)) (result_under f (whole_steps sets setup recipes ps f ts)) old new (discard_value ended)
