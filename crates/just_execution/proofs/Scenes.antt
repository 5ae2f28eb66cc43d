-- Scenes that are alike stand for the same runs.
use Rattle.std.proofs.Common.{◌≡◌, ◌∙◌, ℕ, List, [], length, Option, Some, None, Result, refl, ap, subst}
use Rattle.std.specs.List.{All, slice_get}
use Rattle.just_errors.specs.declared.halt.Halt.{Halt}
use Rattle.just_errors.specs.Halts.{discard_value}
use Rattle.just_recipe.specs.declared.dependency.Dependency.{Dependency}
use Rattle.just_recipe.specs.declared.recipe.Recipe.{Recipe}
use Rattle.just_run_layers.specs.declared.held.Held.{Held}
use Rattle.just_run_layers.specs.declared.host.Entry.{Entry}
use Rattle.just_run_layers.specs.Evaluation.{Inquiry}
use Rattle.just_run_layers.specs.Host.{Answer}
use Rattle.just_run_layers.specs.Interactions.{IsTraceOrPrefix, and_then, ArePromised, Log, Question, HasTrace, both, result_under, trace_under}
use Rattle.just_parts.specs.Syntax.{SyntaxAnswers}
use Rattle.just_paths.specs.declared.modulepath.Modulepath.{Modulepath}
use Rattle.just_execution.specs.TaskInteractions.{after_steps, ask_in, ask_steps, begin_steps, execute_at, execute_steps, follow_in, follow_steps, interactions_of, prepare_steps, run_in}
use Rattle.just_execution.specs.Reports.{TasksRunAsExpected, HasRunTrace, calls_in}
use Rattle.just_execution.specs.Run.{PriorsIgnoreFlag, run_steps}
use Rattle.just_tasks.specs.Scene.{AreAlike, ModuleContents, Scene}
use Rattle.just_execution.specs.Walking.{TaskInteractions, fresh_steps, walk_steps}
use Rattle.just_execution.specs.declared.run.Report.{Report}
use Rattle.just_tasks.specs.declared.task.Task.{Task}
use Rattle.just_tasks.proofs.Places.{All-got}

-- these recipes in these modules, under a grammar
abbrev scene : SyntaxAnswers → List (Recipe Dependency) → (Option Modulepath → Option ModuleContents) → Scene
scene syntax recipes modules = record { syntax = syntax; recipes = recipes; modules = modules }

-- what is asked in modules that are the same for each recipe
module _ (syntax : SyntaxAnswers) (recipes : List (Recipe Dependency)) (ms ns : Option Modulepath → Option ModuleContents)
    (agree : All (λ (r : Recipe Dependency). ms r.module_path ≡ ns r.module_path) recipes) where
  agree-at : (k : ℕ) (r : Recipe Dependency) → slice_get recipes k ≡ Some r → ms r.module_path ≡ ns r.module_path
  agree-at k r at = All-got (λ (r : Recipe Dependency). ms r.module_path ≡ ns r.module_path) recipes k r agree at

  same-prepared : (t : Task) (o : Option (Recipe Dependency)) → slice_get recipes t.pair.recipe ≡ o → prepare_steps (scene syntax recipes ms) t o ≡ prepare_steps (scene syntax recipes ns) t o
  same-prepared t None at = refl
  same-prepared t (Some r) at = ap (ask_in syntax recipes t r) (agree-at t.pair.recipe r at)

  same-asked : (t : Task) → ask_steps (scene syntax recipes ms) t ≡ ask_steps (scene syntax recipes ns) t
  same-asked t = same-prepared t (slice_get recipes t.pair.recipe) refl

  same-after : (t : Task) (h : Held) (o : Option (Recipe Dependency)) → slice_get recipes t.pair.recipe ≡ o → after_steps (scene syntax recipes ms) t h o ≡ after_steps (scene syntax recipes ns) t h o
  same-after t h None at = refl
  same-after t h (Some r) at = ap (follow_in recipes t h r) (agree-at t.pair.recipe r at)

  same-followed : (t : Task) (h : Held) → follow_steps (scene syntax recipes ms) t h ≡ follow_steps (scene syntax recipes ns) t h
  same-followed t h = same-after t h (slice_get recipes t.pair.recipe) refl

  same-executed-at : (t : Task) (h : Held) (o : Option (Recipe Dependency)) → slice_get recipes t.pair.recipe ≡ o → execute_at (scene syntax recipes ms) t h o ≡ execute_at (scene syntax recipes ns) t h o
  same-executed-at t h None at = refl
  same-executed-at t h (Some r) at = ap (λ o. and_then (begin_steps t.pair.groups r.recipe_path) (λ _. run_in syntax t h r o)) (agree-at t.pair.recipe r at)

  same-executed : (t : Task) (h : Held) → execute_steps (scene syntax recipes ms) t h ≡ execute_steps (scene syntax recipes ns) t h
  same-executed t h = same-executed-at t h (slice_get recipes t.pair.recipe) refl

  same-parts : interactions_of (scene syntax recipes ms) ≡ interactions_of (scene syntax recipes ns)
  same-parts = λ i. record { ask = λ t. same-asked t i; execute = λ t h. same-executed t h i; follow = λ t h. same-followed t h i }

pub same-leaves : (first second : Scene) → AreAlike first second → interactions_of first ≡ interactions_of second
same-leaves first second alike =
    same-parts first.syntax first.recipes first.modules second.modules alike.modules
    ∙ ap (λ (syntax : SyntaxAnswers). interactions_of (scene syntax first.recipes second.modules)) alike.syntax
    ∙ ap (λ rs. interactions_of (scene second.syntax rs second.modules)) alike.recipes

-- so a run in one of them is one in the other
module _ (e : Inquiry → Option Answer) (h : Entry → Option Answer) (tops : List Task) (old new : Log) (r : Result Report Halt) where
  abbrev IsStarted : TaskInteractions → ℕ → Type 0
  IsStarted of_task n = HasTrace (both e h) (fresh_steps (walk_steps of_task n) tops []) old new (calls_in r)

  abbrev IsExpectedBy : TaskInteractions → ℕ → Type 0
  IsExpectedBy of_task n =
      (f : Question → Answer) → ArePromised (both e h) f (trace_under f (run_steps of_task f n tops)) → PriorsIgnoreFlag of_task f n tops →
      IsTraceOrPrefix (trace_under f (run_steps of_task f n tops)) (result_under f (run_steps of_task f n tops)) old new (discard_value r)

  module _ (first second : Scene) (alike : AreAlike first second) where
    carried : (P : TaskInteractions → ℕ → Type 0) → P (interactions_of first) (length first.recipes) → P (interactions_of second) (length second.recipes)
    carried P x = subst (λ rs. P (interactions_of second) (length rs)) alike.recipes (subst (λ of_task. P of_task (length first.recipes)) (same-leaves first second alike) x)

    pub same-start : HasRunTrace e h first tops old new r → HasRunTrace e h second tops old new r
    same-start started = carried IsStarted started

    pub same-expected : TasksRunAsExpected e h first tops old new r → TasksRunAsExpected e h second tops old new r
    same-expected expected = carried IsExpectedBy expected
