-- The questions of one task, as they were taken, of a recipe as it runs.
use Rattle.std.proofs.Common.{◌≡◌, Bool, List, take, drop, Option, Some, Result, Ok, Err, refl, sym, subst}
use Rattle.std.specs.List.{slice_get}
use Rattle.just_errors.specs.declared.halt.Halt.{Halt}
use Rattle.just_parts.specs.Syntax.{SyntaxAnswers}
use Rattle.just_recipe.specs.declared.dependency.Dependency.{Dependency}
use Rattle.just_recipe.specs.declared.recipe.Recipe.{Recipe}
use Rattle.just_run_layers.specs.declared.held.Held.{Held}
use Rattle.just_run_layers.specs.declared.host.Entry.{Entry}
use Rattle.just_run_layers.specs.Evaluation.{Inquiry, ScopeRequest}
use Rattle.just_run_layers.specs.Host.{Answer, KeepsPromises}
use Rattle.just_run_layers.specs.Interactions.{Log, Interaction, HasTrace, both, log_of}
use Rattle.just_execution.specs.Arguments.{dependencies_steps}
use Rattle.just_tasks.specs.Homes.{Modules, module_scope_at}
use Rattle.just_execution.specs.TaskInteractions.{consent_by, consent_steps, follow_steps, parameters_steps, surrounded}
use Rattle.just_run_layers.specs.loops.Interactions.{AsksAlone}
use Rattle.just_execution.specs.loops.TaskInteractions.{Prepares}
use Rattle.just_tasks.specs.Pairs.{prior_dependencies, subsequent_dependencies}
use Rattle.just_tasks.specs.Scene.{Scene, scope_contents_of, running, scene_with}
use Rattle.just_tasks.specs.declared.scopes.ModuleScope.{ModuleScope}
use Rattle.just_tasks.specs.declared.task.Task.{Task}
use Rattle.just_execution.proofs.Homes.{contents-there}
use Rattle.just_execution.proofs.TaskTraces as leaf
use Rattle.just_tasks.proofs.Lone.{as_run, none-of-lone, running-at}
use Rattle.just_execution.proofs.Lone.{same-consent, same-dependencies, same-parameters}

module _ (answers : SyntaxAnswers) (modules : Modules) (b : Bool) (rs : List (Recipe Dependency)) (t : Task) (r : Recipe Dependency) (m : ModuleScope) (at : slice_get rs t.pair.recipe ≡ Some r)
    (there : module_scope_at modules r.module_path ≡ Some m) where
  abbrev seen : Scene
  seen = scene_with answers modules (running b rs)

  -- the dependencies that run before it, and after it
  pub priors-seen : (ds : List Dependency) → ds ≡ prior_dependencies (running b rs) t.pair.recipe → ds ≡ take (as_run b r).priors (as_run b r).dependencies
  priors-seen ds is = leaf.priors-are (running b rs) t.pair.recipe (as_run b r) (running-at b rs t.pair.recipe r at) ds is

  pub subsequents-seen : (ds : List Dependency) → ds ≡ subsequent_dependencies (running b rs) t.pair.recipe → ds ≡ drop (as_run b r).priors (as_run b r).dependencies
  subsequents-seen ds is = leaf.subsequents-are (running b rs) t.pair.recipe (as_run b r) (running-at b rs t.pair.recipe r at) ds is

  module _ (e : Inquiry → Option Answer) (h : Entry → Option Answer) (entries : List Entry) (before : List ScopeRequest) where
    asked : (later : List ScopeRequest) (result : Result Held Halt) → AsksAlone e (parameters_steps r t (scope_contents_of m)) before later result → AsksAlone e (parameters_steps (as_run b r) t (scope_contents_of m)) before later result
    asked later result took = subst (λ (s : Interaction Held). AsksAlone e s before later result) (sym (same-parameters r t (scope_contents_of m) b)) took

    pub parameters-failed : (later : List ScopeRequest) (f : Halt) → AsksAlone e (parameters_steps r t (scope_contents_of m)) before later (Err f) → Prepares e h seen t (log_of entries before) (log_of entries later) (Err f)
    parameters-failed later f took =
        leaf.parameters-failed seen t (as_run b r) (scope_contents_of m) (running-at b rs t.pair.recipe r at) (contents-there answers modules b rs r m there) e h entries before later f (asked later (Err f) took)

    module _ (d : Inquiry → Option Answer) (keeps : KeepsPromises e d) (now : List ScopeRequest) (x : Held) (first : AsksAlone e (parameters_steps r t (scope_contents_of m)) before now (Ok x)) where
      consented : (new : Log) (result : Result (Unit {0}) Halt) → HasTrace (both d h) (consent_steps (consent_by answers t r (scope_contents_of m) x)) (log_of entries now) new result →
          HasTrace (both d h) (consent_steps (consent_by answers t (as_run b r) (scope_contents_of m) x)) (log_of entries now) new result
      consented new result took = subst (λ (s : Interaction (Unit {0})). HasTrace (both d h) s (log_of entries now) new result) (sym (same-consent r t (scope_contents_of m) answers x b)) took

      pub consent-failed : (new : Log) (f : Halt) → HasTrace (both d h) (consent_steps (consent_by answers t r (scope_contents_of m) x)) (log_of entries now) new (Err f) → Prepares e h seen t (log_of entries before) new (Err f)
      consent-failed new f took =
          leaf.consent-failed seen t (as_run b r) (scope_contents_of m) (running-at b rs t.pair.recipe r at) (contents-there answers modules b rs r m there) e h entries before d keeps now x (asked now (Ok x) first) new f (consented new (Err f) took)

      module _ (o : Inquiry → Option Answer) (g : Entry → Option Answer) (kept : KeepsPromises d o) (also : KeepsPromises h g) (told : List Entry) (then later : List ScopeRequest)
          (second : HasTrace (both d h) (consent_steps (consent_by answers t r (scope_contents_of m) x)) (log_of entries now) (log_of told then) (Ok tt)) (ds : List Dependency) (are : ds ≡ take (as_run b r).priors (as_run b r).dependencies) where
        given : (result : Result (List Task) Halt) → AsksAlone o (dependencies_steps rs (surrounded (scope_contents_of m) t x) ds) then later result → AsksAlone o (dependencies_steps (running b rs) (surrounded (scope_contents_of m) t x) ds) then later result
        given result took = subst (λ (s : Interaction (List Task)). AsksAlone o s then later result)
            (sym (same-dependencies b rs (surrounded (scope_contents_of m) t x) ds (none-of-lone (λ r. take r.priors r.dependencies) (λ r. refl) b r ds are))) took

        pub priors-failed : (f : Halt) → AsksAlone o (dependencies_steps rs (surrounded (scope_contents_of m) t x) ds) then later (Err f) → Prepares e h seen t (log_of entries before) (log_of told later) (Err f)
        priors-failed f took =
            leaf.priors-failed seen t (as_run b r) (scope_contents_of m) (running-at b rs t.pair.recipe r at) (contents-there answers modules b rs r m there) e h entries before d keeps now x (asked now (Ok x) first)
            o g kept also told then later (consented (log_of told then) (Ok tt) second) ds are f (given (Err f) took)

        pub priors-given : (ps : List Task) → AsksAlone o (dependencies_steps rs (surrounded (scope_contents_of m) t x) ds) then later (Ok ps) → Prepares e h seen t (log_of entries before) (log_of told later) (Ok (record { held = x; priors = ps }))
        priors-given ps took =
            leaf.priors-given seen t (as_run b r) (scope_contents_of m) (running-at b rs t.pair.recipe r at) (contents-there answers modules b rs r m there) e h entries before d keeps now x (asked now (Ok x) first)
            o g kept also told then later (consented (log_of told then) (Ok tt) second) ds are ps (given (Ok ps) took)

  -- the questions after the body
  pub followed-as : (e : Inquiry → Option Answer) (x : Held) (before later : List ScopeRequest) (ds : List Dependency) → ds ≡ drop (as_run b r).priors (as_run b r).dependencies → (result : Result (List Task) Halt) →
      AsksAlone e (dependencies_steps rs (surrounded (scope_contents_of m) t x) ds) before later result → AsksAlone e (follow_steps seen t x) before later result
  followed-as e x before later ds are result took =
      leaf.followed-as seen t (as_run b r) (scope_contents_of m) (running-at b rs t.pair.recipe r at) (contents-there answers modules b rs r m there) e x before later ds are result
      (subst (λ (s : Interaction (List Task)). AsksAlone e s before later result)
      (sym (same-dependencies b rs (surrounded (scope_contents_of m) t x) ds (none-of-lone (λ r. drop r.priors r.dependencies) (λ r. refl) b r ds are))) took)
