-- What asking for a task comes to; the tasks that recipes name stand at lower places.
use Rattle.std.proofs.Common.{◌≡◌, ◌<◌, ◌∙◌, ℕ, List, [], Option, None, Some, Ok, ap}
use Rattle.std.specs.List.{All, slice_get}
use Rattle.std.proofs.lemmas.List.Elements.{All-weaker}
use Rattle.just_recipe.specs.declared.recipe.Recipe.{Recipe}
use Rattle.just_recipe.specs.declared.dependency.Dependency.{Dependency}
use Rattle.just_recipes.specs.Places.{place_of}
use Rattle.just_run_layers.specs.declared.held.Held.{Held}
use Rattle.just_run_layers.specs.declared.host.Entry.{Entry}
use Rattle.just_run_layers.specs.Evaluation.{Inquiry, ScopeRequest}
use Rattle.just_run_layers.specs.Host.{Answer}
use Rattle.just_run_layers.specs.Interactions.{Log, and_then, both, log_of}
use Rattle.just_run_layers.proofs.InteractionLemmas.{took-gives}
use Rattle.just_execution.specs.Account.{AreNamed}
use Rattle.just_execution.specs.TaskInteractions.{ask_in, ask_steps, follow_in, follow_steps, after_steps, held_steps, interactions_of, parameters_steps, prepare_steps}
use Rattle.just_run_layers.specs.loops.Interactions.{AsksAlone}
use Rattle.just_execution.specs.loops.TaskInteractions.{Prepares}
use Rattle.just_execution.specs.loops.Lower.{IsLower}
use Rattle.just_tasks.specs.declared.task.Task.{Task}
use Rattle.just_tasks.specs.Pairs.{AllBelow, prior_dependencies, subsequent_dependencies}
use Rattle.just_recipe.specs.Recipes.{DependenciesStandFirst}
use Rattle.just_tasks.specs.Scene.{ModuleContents, Scene}
use Rattle.just_execution.specs.Walking.{Prepared}
use Rattle.just_execution.proofs.Asked.{ask-named, follow-named, named-all}
use Rattle.just_tasks.proofs.Places.{IsBefore, priors-before, subsequents-before}

-- where the recipe of a task and its module are there, this is what is asked
module _ (scene : Scene) (t : Task) (r : Recipe Dependency) (m : ModuleContents) (at : slice_get scene.recipes t.pair.recipe ≡ Some r) (there : scene.modules r.module_path ≡ Some m) where
  pub ask-is : ask_steps scene t ≡ and_then (parameters_steps r t m) (held_steps scene.syntax scene.recipes t r m)
  ask-is = ap (prepare_steps scene t) at ∙ ap (ask_in scene.syntax scene.recipes t r) there

  pub follow-is : (h : Held) → follow_steps scene t h ≡ follow_in scene.recipes t h r (Some m)
  follow-is h = ap (after_steps scene t h) at ∙ ap (follow_in scene.recipes t h r) there

-- tasks that are named stand where what they are named by stands
pub named-below : (rs : List (Recipe Dependency)) (k : ℕ) (ds : List Dependency) (ts : List Task) → All (IsBefore rs k) ds → AreNamed rs ds ts → AllBelow k ts
named-below rs k ds ts h n = named-all rs (λ place. place < k) ds ts n (All-weaker (IsBefore rs k) (λ (d : Dependency). place_of rs d.recipe.0 < k) (λ d q. q.1) ds h)

pub leaves-lower : (scene : Scene) → DependenciesStandFirst scene.recipes → IsLower (interactions_of scene)
leaves-lower scene ordered = record {
  priors = λ t a g. named-below scene.recipes t.pair.recipe (prior_dependencies scene.recipes t.pair.recipe) a.priors (priors-before scene.recipes t.pair.recipe ordered) (ask-named scene t a g);
  subsequents = λ t h ts g. named-below scene.recipes t.pair.recipe (subsequent_dependencies scene.recipes t.pair.recipe) ts (subsequents-before scene.recipes t.pair.recipe ordered) (follow-named scene t h ts g);
}

-- what a task was asked for and answered leads to lower places
pub asked-below : (scene : Scene) → DependenciesStandFirst scene.recipes → (e : Inquiry → Option Answer) (h : Entry → Option Answer) (t : Task) (old new : Log) (a : Prepared) →
    Prepares e h scene t old new (Ok a) → AllBelow t.pair.recipe a.priors
asked-below scene ordered e h t old new a took = (leaves-lower scene ordered).priors t a (took-gives (both e h) (ask_steps scene t) old new a took)

pub followed-below : (scene : Scene) → DependenciesStandFirst scene.recipes → (e : Inquiry → Option Answer) (t : Task) (h : Held) (before later : List ScopeRequest) (ts : List Task) →
    AsksAlone e (follow_steps scene t h) before later (Ok ts) → AllBelow t.pair.recipe ts
followed-below scene ordered e t h before later ts took =
    (leaves-lower scene ordered).subsequents t h ts (took-gives (both e (λ entry. None)) (follow_steps scene t h) (log_of [] before) (log_of [] later) ts (took (λ entry. None) []))
