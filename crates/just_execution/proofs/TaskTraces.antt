-- The questions of one task, as they were taken.
use Rattle.std.proofs.Common.{◌≡◌, ◌∙◌, ℕ, List, take, drop, Option, Some, Ok, Err, sym, subst}
use Rattle.std.specs.Prelude.{Result}
use Rattle.std.specs.List.{All, slice_get}
use Rattle.std.proofs.lemmas.List.Elements.{All-drop, All-take}
use Rattle.just_errors.specs.declared.halt.Halt.{Halt}
use Rattle.just_recipe.specs.declared.dependency.Dependency.{Dependency}
use Rattle.just_recipe.specs.declared.recipe.Recipe.{Recipe}
use Rattle.just_run_layers.specs.declared.held.Held.{Held}
use Rattle.just_run_layers.specs.declared.host.Entry.{Entry}
use Rattle.just_run_layers.specs.Evaluation.{Inquiry, ScopeRequest}
use Rattle.just_run_layers.specs.Host.{Answer, KeepsPromises}
use Rattle.just_run_layers.specs.Interactions.{Log, Interaction, Return, HasTrace, and_then, both, log_of}
use Rattle.just_run_layers.proofs.InteractionLemmas.{keeps-both, keeps-self, took-stop, took-then}
use Rattle.just_execution.specs.Arguments.{dependencies_steps}
use Rattle.just_execution.specs.TaskInteractions.{consent_by, consent_steps, follow_steps, held_steps, parameters_steps, prior_steps, surrounded}
use Rattle.just_run_layers.specs.loops.Interactions.{AsksAlone}
use Rattle.just_execution.specs.loops.TaskInteractions.{Prepares}
use Rattle.just_tasks.specs.Pairs.{prior_dependencies, subsequent_dependencies}
use Rattle.just_tasks.specs.Scene.{ModuleContents, Scene}
use Rattle.just_execution.specs.Walking.{Prepared}
use Rattle.just_tasks.specs.declared.task.Task.{Task}
use Rattle.just_execution.proofs.Gathered.{alone-map, alone-stop}
use Rattle.just_execution.proofs.TaskInteractions.{ask-is, follow-is}
use Rattle.just_tasks.proofs.Places.{at-place}

-- the dependencies that run before a recipe, and after it
pub priors-are : (rs : List (Recipe Dependency)) (k : ℕ) (r : Recipe Dependency) → slice_get rs k ≡ Some r → (ds : List Dependency) → ds ≡ prior_dependencies rs k → ds ≡ take r.priors r.dependencies
priors-are rs k r at ds is = is ∙ at-place (λ r. take r.priors r.dependencies) rs k r at

pub subsequents-are : (rs : List (Recipe Dependency)) (k : ℕ) (r : Recipe Dependency) → slice_get rs k ≡ Some r → (ds : List Dependency) → ds ≡ subsequent_dependencies rs k → ds ≡ drop r.priors r.dependencies
subsequents-are rs k r at ds is = is ∙ at-place (λ r. drop r.priors r.dependencies) rs k r at

pub priors-all : (P : Dependency → Type 0) (r : Recipe Dependency) (ds : List Dependency) → ds ≡ take r.priors r.dependencies → All P r.dependencies → All P ds
priors-all P r ds is h = subst (All P) (sym is) (All-take P r.priors r.dependencies h)

pub subsequents-all : (P : Dependency → Type 0) (r : Recipe Dependency) (ds : List Dependency) → ds ≡ drop r.priors r.dependencies → All P r.dependencies → All P ds
subsequents-all P r ds is h = subst (All P) (sym is) (All-drop P r.priors r.dependencies h)

module _ (scene : Scene) (t : Task) (r : Recipe Dependency) (m : ModuleContents) (at : slice_get scene.recipes t.pair.recipe ≡ Some r) (there : scene.modules r.module_path ≡ Some m) where
  -- the questions before the priors: the parameters fail; the task is not confirmed; the arguments fail; or none does
  module _ (e : Inquiry → Option Answer) (h : Entry → Option Answer) (entries : List Entry) (before : List ScopeRequest) where
    asked : (new : Log) (result : Result Prepared Halt) → HasTrace (both e h) (and_then (parameters_steps r t m) (held_steps scene.syntax scene.recipes t r m)) (log_of entries before) new result →
        Prepares e h scene t (log_of entries before) new result
    asked new result took = subst (λ (s : Interaction Prepared). HasTrace (both e h) s (log_of entries before) new result) (sym (ask-is scene t r m at there)) took

    pub parameters-failed : (later : List ScopeRequest) (f : Halt) → AsksAlone e (parameters_steps r t m) before later (Err f) → Prepares e h scene t (log_of entries before) (log_of entries later) (Err f)
    parameters-failed later f took = asked (log_of entries later) (Err f) (took-stop (both e h) (parameters_steps r t m) (held_steps scene.syntax scene.recipes t r m) (log_of entries before) (log_of entries later) f (took h entries))

    module _ (d : Inquiry → Option Answer) (keeps : KeepsPromises e d) (now : List ScopeRequest) (x : Held) (first : AsksAlone e (parameters_steps r t m) before now (Ok x)) where
      abbrev consent : Interaction (Unit {0})
      consent = consent_steps (consent_by scene.syntax t r m x)

      after-parameters : (new : Log) (result : Result Prepared Halt) → HasTrace (both d h) (held_steps scene.syntax scene.recipes t r m x) (log_of entries now) new result → Prepares e h scene t (log_of entries before) new result
      after-parameters new result took = asked new result
          (took-then (both e h) (both d h) (keeps-both e d h h keeps (keeps-self h)) (parameters_steps r t m) (held_steps scene.syntax scene.recipes t r m) (log_of entries before) (log_of entries now) new x result (first h entries) took)

      pub consent-failed : (new : Log) (f : Halt) → HasTrace (both d h) consent (log_of entries now) new (Err f) → Prepares e h scene t (log_of entries before) new (Err f)
      consent-failed new f took = after-parameters new (Err f) (took-stop (both d h) consent (λ _. prior_steps scene.recipes t r m x) (log_of entries now) new f took)

      module _ (o : Inquiry → Option Answer) (g : Entry → Option Answer) (kept : KeepsPromises d o) (also : KeepsPromises h g) (told : List Entry) (then later : List ScopeRequest)
          (second : HasTrace (both d h) consent (log_of entries now) (log_of told then) (Ok tt)) (ds : List Dependency) (are : ds ≡ take r.priors r.dependencies) where
        after-consent : (new : Log) (result : Result Prepared Halt) → HasTrace (both o g) (prior_steps scene.recipes t r m x) (log_of told then) new result → Prepares e h scene t (log_of entries before) new result
        after-consent new result took = after-parameters new result
            (took-then (both d h) (both o g) (keeps-both d o h g kept also) consent (λ _. prior_steps scene.recipes t r m x) (log_of entries now) (log_of told then) new tt result second took)

        third : (result : Result (List Task) Halt) → AsksAlone o (dependencies_steps scene.recipes (surrounded m t x) ds) then later result → AsksAlone o (dependencies_steps scene.recipes (surrounded m t x) (take r.priors r.dependencies)) then later result
        third result took = subst (λ (ds : List Dependency). AsksAlone o (dependencies_steps scene.recipes (surrounded m t x) ds) then later result) are took

        pub priors-failed : (f : Halt) → AsksAlone o (dependencies_steps scene.recipes (surrounded m t x) ds) then later (Err f) → Prepares e h scene t (log_of entries before) (log_of told later) (Err f)
        priors-failed f took = after-consent (log_of told later) (Err f)
            (alone-stop o (dependencies_steps scene.recipes (surrounded m t x) (take r.priors r.dependencies)) (λ ps. Return (record { held = x; priors = ps })) then later f (third (Err f) took) g told)

        pub priors-given : (ps : List Task) → AsksAlone o (dependencies_steps scene.recipes (surrounded m t x) ds) then later (Ok ps) →
            Prepares e h scene t (log_of entries before) (log_of told later) (Ok (record { held = x; priors = ps }))
        priors-given ps took = after-consent (log_of told later) (Ok (record { held = x; priors = ps }))
            (alone-map o (dependencies_steps scene.recipes (surrounded m t x) (take r.priors r.dependencies)) (λ ps. record { held = x; priors = ps }) then later ps (third (Ok ps) took) g told)

  -- the questions after the body
  pub followed-as : (e : Inquiry → Option Answer) (x : Held) (before later : List ScopeRequest) (ds : List Dependency) → ds ≡ drop r.priors r.dependencies → (result : Result (List Task) Halt) →
      AsksAlone e (dependencies_steps scene.recipes (surrounded m t x) ds) before later result → AsksAlone e (follow_steps scene t x) before later result
  followed-as e x before later ds are result took =
      subst (λ (s : Interaction (List Task)). AsksAlone e s before later result) (sym (follow-is scene t r m at there x))
      (subst (λ (ds : List Dependency). AsksAlone e (dependencies_steps scene.recipes (surrounded m t x) ds) before later result) are took)
