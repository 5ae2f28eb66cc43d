-- What is asked of one task: what it comes to, and that it executes nothing.
use Rattle.std.proofs.Common.{◌≡◌, true, ℕ, zero, suc, List, [], ◌∷◌, ◌++◌, length, map, take, drop, get_or, set, Option, Some, None, Ok, Err, refl, sym, ◌∙◌, ap, subst, inl}
use Rattle.std.specs.List.{All, position, slice_get}
use Rattle.std.proofs.lemmas.List.{length-map, set-set}
use Rattle.std.proofs.lemmas.List.Elements.{All-head, All-tail, All-nil, All-append, All-weaker, All-map}
use Rattle.just_names.specs.Texts.{Text}
use Rattle.just_errors.specs.declared.fault.Fault.{Fault}
use Rattle.just_errors.specs.declared.halt.Halt.{Halt}
use Rattle.just_errors.specs.declared.halt.Halt.TheVariants.{Failed}
use Rattle.just_errors.specs.declared.run_error.RunError.TheVariants.{Evaluate}
use Rattle.just_names.specs.Token.{lexeme}
use Rattle.just_ast_expressions.specs.declared.expression.Expression.{Expression}
use Rattle.just_ast_definitions.specs.declared.parameter.Parameter.{Parameter}
use Rattle.just_recipe.specs.Starred.{has_star}
use Rattle.just_recipe.specs.declared.dependency.Dependency.{Dependency}
use Rattle.just_recipe.specs.declared.dependency.DependencyArgument.{DependencyArgument}
use Rattle.just_recipe.specs.declared.recipe.Recipe.{Recipe}
use Rattle.just_recipes.specs.Places.{place_of}
use Rattle.just_run_layers.specs.declared.held.Held.{Held}
use Rattle.just_run_layers.specs.Evaluation.{Inquiry, Parameters, ScopeRequest, Surroundings, Value}
use Rattle.just_run_layers.specs.Host.{Answer, Answers, Done, TextGiven, Valued, ScopeGiven, Bound, Paired, Changed, Ran, Refused}
use Rattle.just_run_layers.specs.Interactions.{Return, and_then, CanReturn, log_of}
use Rattle.just_run_layers.proofs.InteractionLemmas.{took-asked}
use Rattle.just_execution.specs.Account.{AreNamed, StandFor}
use Rattle.just_execution.specs.Arguments.{argument_steps, dependencies_steps, dependency_steps, argument_group_steps, argument_groups_steps, spread, task_at, tasks_with, texts_given, argument_texts_steps, value_steps, valued_answered, with_text}
use Rattle.just_execution.specs.TaskInteractions.{after_steps, ask_in, ask_steps, bound_answered, consent_by, consent_steps, follow_in, follow_steps, held_steps, parameters_steps, prepare_steps, prior_steps, surrounded}
use Rattle.just_run_layers.specs.loops.Interactions.{AsksAlone}
use Rattle.just_tasks.specs.Pairs.{prior_dependencies, subsequent_dependencies}
use Rattle.just_tasks.specs.Scene.{ModuleContents, Scene}
use Rattle.just_execution.specs.Walking.{Prepared}
use Rattle.just_tasks.specs.declared.task.Task.{Task}
use Rattle.just_execution.proofs.Gathered.{alone-map, alone-stop, gives-split}
use Rattle.just_tasks.proofs.Places.{at-place}
use Rattle.just_run_layers.proofs.Halts.{failed-not, memory-not}
use Rattle.just_run_layers.proofs.Quiet.{Quiet, quiet-then}
use Rattle.just_execution.proofs.Quiet.{quiet-gathered}
use Rattle.just_execution.proofs.QuietRecipes.{consent-quiet}

-- nothing is executed
valued-quiet : (a : Answer) → Quiet (valued_answered a)
valued-quiet Done = memory-not
valued-quiet (TextGiven text) = memory-not
valued-quiet (Valued value) = tt
valued-quiet (ScopeGiven scope) = memory-not
valued-quiet (Bound h) = memory-not
valued-quiet (Paired pairs) = memory-not
valued-quiet (Changed changes) = memory-not
valued-quiet (Ran answer) = memory-not
valued-quiet (Refused message) = failed-not _

bound-quiet : (a : Answer) → Quiet (bound_answered a)
bound-quiet Done = memory-not
bound-quiet (TextGiven text) = memory-not
bound-quiet (Valued value) = memory-not
bound-quiet (ScopeGiven scope) = memory-not
bound-quiet (Bound h) = tt
bound-quiet (Paired pairs) = memory-not
bound-quiet (Changed changes) = memory-not
bound-quiet (Ran answer) = memory-not
bound-quiet (Refused message) = failed-not _

module _ (recipes : List (Recipe Dependency)) (s : Surroundings) where
  argument-quiet : (a : DependencyArgument) → Quiet (argument_steps s a)
  argument-quiet a = (refl, λ answer. quiet-then (valued_answered answer) (λ value. Return (texts_given s.context.settings.lists value)) (valued-quiet answer) (λ value. tt))

  group-quiet : (arguments : List DependencyArgument) → Quiet (argument_group_steps s arguments)
  group-quiet arguments = quiet-then (argument_texts_steps s arguments) (λ texts. Return (texts ∷ [])) (quiet-gathered (argument_steps s) argument-quiet arguments) (λ texts. tt)

  dependency-quiet : (d : Dependency) → Quiet (dependency_steps recipes s d)
  dependency-quiet d = quiet-then (argument_groups_steps s d.arguments) (λ groups. Return (tasks_with recipes d groups)) (quiet-gathered (argument_group_steps s) group-quiet d.arguments) (λ groups. tt)

  dependencies-quiet : (ds : List Dependency) → Quiet (dependencies_steps recipes s ds)
  dependencies-quiet ds = quiet-gathered (dependency_steps recipes s) dependency-quiet ds

module _ (scene : Scene) (t : Task) where
  ask_in-quiet : (r : Recipe Dependency) (o : Option ModuleContents) → Quiet (ask_in scene.syntax scene.recipes t r o)
  ask_in-quiet r None = memory-not
  ask_in-quiet r (Some m) = (
    refl,
    λ answer. quiet-then (bound_answered answer) (held_steps scene.syntax scene.recipes t r m) (bound-quiet answer)
        (λ h. quiet-then (consent_steps (consent_by scene.syntax t r m h)) (λ _. prior_steps scene.recipes t r m h) (consent-quiet (consent_by scene.syntax t r m h))
        (λ _. quiet-then (dependencies_steps scene.recipes (surrounded m t h) (take r.priors r.dependencies)) (λ ps. Return (record { held = h; priors = ps }))
        (dependencies-quiet scene.recipes (surrounded m t h) (take r.priors r.dependencies)) (λ ps. tt))),
  )

  prepare-quiet : (o : Option (Recipe Dependency)) → Quiet (prepare_steps scene t o)
  prepare-quiet None = memory-not
  prepare-quiet (Some r) = ask_in-quiet r (scene.modules r.module_path)

  pub ask-quiet : Quiet (ask_steps scene t)
  ask-quiet = prepare-quiet (slice_get scene.recipes t.pair.recipe)

  follow_in-quiet : (h : Held) (r : Recipe Dependency) (o : Option ModuleContents) → Quiet (follow_in scene.recipes t h r o)
  follow_in-quiet h r None = memory-not
  follow_in-quiet h r (Some m) = dependencies-quiet scene.recipes (surrounded m t h) (drop r.priors r.dependencies)

  after-quiet : (h : Held) (o : Option (Recipe Dependency)) → Quiet (after_steps scene t h o)
  after-quiet h None = memory-not
  after-quiet h (Some r) = follow_in-quiet h r (scene.modules r.module_path)

  pub follow-quiet : (h : Held) → Quiet (follow_steps scene t h)
  follow-quiet h = after-quiet h (slice_get scene.recipes t.pair.recipe)

-- the tasks of a dependency are those of the recipe that it names, and one where it has no star
once-spread : (o : Option ℕ) (groups : List (List Text)) → o ≡ None → length (spread o groups) ≡ 1
once-spread None groups e = refl
once-spread (Some place) groups e = absurd (cc)

stands-for : (recipes : List (Recipe Dependency)) (d : Dependency) (groups : List (List Text)) → StandFor recipes d (tasks_with recipes d groups)
stands-for recipes d groups =
    let named : Task → Type 0 = λ t. (t.pair.recipe ≡ place_of recipes d.recipe.0) × (t.dependency ≡ true) in
    record {
      named = All-map named (task_at (place_of recipes d.recipe.0)) (spread (position has_star d.arguments) groups) (λ i e l. (refl, refl));
      once = λ none. length-map (spread (position has_star d.arguments) groups) (task_at (place_of recipes d.recipe.0)) ∙ once-spread (position has_star d.arguments) groups none;
    }

dependency-stands : (recipes : List (Recipe Dependency)) (s : Surroundings) (d : Dependency) (ts : List Task) → CanReturn (dependency_steps recipes s d) ts → StandFor recipes d ts
dependency-stands recipes s d ts g =
    let r = gives-split (argument_groups_steps s d.arguments) (λ groups. Return (tasks_with recipes d groups)) ts g in
    subst (StandFor recipes d) r.2 (stands-for recipes d r.0)

pub dependencies-named : (recipes : List (Recipe Dependency)) (s : Surroundings) (ds : List Dependency) (ts : List Task) → CanReturn (dependencies_steps recipes s ds) ts → AreNamed recipes ds ts
dependencies-named recipes s [] ts g = sym g
dependencies-named recipes s (d ∷ ds) ts g =
    let first = gives-split (dependency_steps recipes s d) (λ ys. and_then (dependencies_steps recipes s ds) (λ more. Return (ys ++ more))) ts g in
    let rest = gives-split (dependencies_steps recipes s ds) (λ more. Return (first.0 ++ more)) ts first.2 in
    (first.0, rest.0, sym rest.2, dependency-stands recipes s d first.0 first.1, dependencies-named recipes s ds rest.0 rest.1)

-- whatever asking comes to, the priors are of the recipes that the recipe names, and so are the subsequents
module _ (scene : Scene) (t : Task) where
  prior-named : (r : Recipe Dependency) (m : ModuleContents) (h : Held) (a : Prepared) → CanReturn (prior_steps scene.recipes t r m h) a → AreNamed scene.recipes (take r.priors r.dependencies) a.priors
  prior-named r m h a g =
      let ds : List Dependency = take r.priors r.dependencies in
      let x = gives-split (dependencies_steps scene.recipes (surrounded m t h) ds) (λ ps. Return (record { held = h; priors = ps })) a g in
      subst (AreNamed scene.recipes ds) (ap (λ (a : Prepared). a.priors) x.2) (dependencies-named scene.recipes (surrounded m t h) ds x.0 x.1)

  held-named : (r : Recipe Dependency) (m : ModuleContents) (h : Held) (a : Prepared) → CanReturn (held_steps scene.syntax scene.recipes t r m h) a → AreNamed scene.recipes (take r.priors r.dependencies) a.priors
  held-named r m h a g = let x = gives-split (consent_steps (consent_by scene.syntax t r m h)) (λ _. prior_steps scene.recipes t r m h) a g in prior-named r m h a x.2

  ask_in-named : (r : Recipe Dependency) (o : Option ModuleContents) (a : Prepared) → CanReturn (ask_in scene.syntax scene.recipes t r o) a → AreNamed scene.recipes (take r.priors r.dependencies) a.priors
  ask_in-named r None a g = absurd g
  ask_in-named r (Some m) a g = let x = gives-split (parameters_steps r t m) (held_steps scene.syntax scene.recipes t r m) a g in held-named r m x.0 a x.2

  prepare-named : (o : Option (Recipe Dependency)) → slice_get scene.recipes t.pair.recipe ≡ o → (a : Prepared) → CanReturn (prepare_steps scene t o) a → AreNamed scene.recipes (prior_dependencies scene.recipes t.pair.recipe) a.priors
  prepare-named None at a g = absurd g
  prepare-named (Some r) at a g = subst (λ (ds : List Dependency). AreNamed scene.recipes ds a.priors) (sym (at-place (λ r. take r.priors r.dependencies) scene.recipes t.pair.recipe r at)) (ask_in-named r (scene.modules r.module_path) a g)

  pub ask-named : (a : Prepared) → CanReturn (ask_steps scene t) a → AreNamed scene.recipes (prior_dependencies scene.recipes t.pair.recipe) a.priors
  ask-named a g = prepare-named (slice_get scene.recipes t.pair.recipe) refl a g

  follow_in-named : (h : Held) (r : Recipe Dependency) (o : Option ModuleContents) (ts : List Task) → CanReturn (follow_in scene.recipes t h r o) ts → AreNamed scene.recipes (drop r.priors r.dependencies) ts
  follow_in-named h r None ts g = absurd g
  follow_in-named h r (Some m) ts g = dependencies-named scene.recipes (surrounded m t h) (drop r.priors r.dependencies) ts g

  after-named : (h : Held) (o : Option (Recipe Dependency)) → slice_get scene.recipes t.pair.recipe ≡ o → (ts : List Task) → CanReturn (after_steps scene t h o) ts → AreNamed scene.recipes (subsequent_dependencies scene.recipes t.pair.recipe) ts
  after-named h None at ts g = absurd g
  after-named h (Some r) at ts g = subst (λ (ds : List Dependency). AreNamed scene.recipes ds ts) (sym (at-place (λ r. drop r.priors r.dependencies) scene.recipes t.pair.recipe r at)) (follow_in-named h r (scene.modules r.module_path) ts g)

  pub follow-named : (h : Held) (ts : List Task) → CanReturn (follow_steps scene t h) ts → AreNamed scene.recipes (subsequent_dependencies scene.recipes t.pair.recipe) ts
  follow-named h ts g = after-named h (slice_get scene.recipes t.pair.recipe) refl ts g

-- what holds of the place of each recipe that is named holds of the tasks
pub named-all : (recipes : List (Recipe Dependency)) (P : ℕ → Type 0) (ds : List Dependency) (ts : List Task) → AreNamed recipes ds ts → All (λ (d : Dependency). P (place_of recipes d.recipe.0)) ds → All (λ (t : Task). P t.pair.recipe) ts
named-all recipes P [] ts n h = subst (All (λ (t : Task). P t.pair.recipe)) (sym n) (All-nil (λ (t : Task). P t.pair.recipe))
named-all recipes P (d ∷ ds) ts n h =
    let (these, others, is, stand, rest) = n in
    let Q : Task → Type 0 = λ (t : Task). P t.pair.recipe in
    let here : P (place_of recipes d.recipe.0) = All-head (λ (d : Dependency). P (place_of recipes d.recipe.0)) d ds h in
    let left : All Q these = All-weaker (λ (t : Task). (t.pair.recipe ≡ place_of recipes d.recipe.0) × (t.dependency ≡ true)) Q (λ t q. subst P (sym q.0) here) these stand.named in
    let right : All Q others = named-all recipes P ds others rest (All-tail (λ (d : Dependency). P (place_of recipes d.recipe.0)) d ds h) in
    subst (All Q) (sym is) (All-append Q these others left right)

-- questions for a group and for a dependency, as they were taken
module _ (s : Surroundings) (group given : List DependencyArgument) (is : given ≡ group) (e : Inquiry → Option Answer) (before later : List ScopeRequest) where
  pub group-given : (texts : List Text) → AsksAlone e (argument_texts_steps s given) before later (Ok texts) → AsksAlone e (argument_group_steps s group) before later (Ok (texts ∷ []))
  group-given texts took = subst (λ (g : List DependencyArgument). AsksAlone e (argument_group_steps s g) before later (Ok (texts ∷ []))) is (alone-map e (argument_texts_steps s given) (λ texts. texts ∷ []) before later texts took)

  pub group-failed : (f : Halt) → AsksAlone e (argument_texts_steps s given) before later (Err f) → AsksAlone e (argument_group_steps s group) before later (Err f)
  group-failed f took = subst (λ (g : List DependencyArgument). AsksAlone e (argument_group_steps s g) before later (Err f)) is (alone-stop e (argument_texts_steps s given) (λ texts. Return (texts ∷ [])) before later f took)

module _ (recipes : List (Recipe Dependency)) (s : Surroundings) (d : Dependency) (given : List (List DependencyArgument)) (is : given ≡ d.arguments) (e : Inquiry → Option Answer) (before later : List ScopeRequest) where
  pub dependency-given : (groups : List (List Text)) → AsksAlone e (argument_groups_steps s given) before later (Ok groups) → AsksAlone e (dependency_steps recipes s d) before later (Ok (tasks_with recipes d groups))
  dependency-given groups took = alone-map e (argument_groups_steps s d.arguments) (tasks_with recipes d) before later groups (subst (λ (g : List (List DependencyArgument)). AsksAlone e (argument_groups_steps s g) before later (Ok groups)) is took)

  pub dependency-failed : (f : Halt) → AsksAlone e (argument_groups_steps s given) before later (Err f) → AsksAlone e (dependency_steps recipes s d) before later (Err f)
  dependency-failed f took = alone-stop e (argument_groups_steps s d.arguments) (λ groups. Return (tasks_with recipes d groups)) before later f (subst (λ (g : List (List DependencyArgument)). AsksAlone e (argument_groups_steps s g) before later (Err f)) is took)

-- a question to the evaluator, as it was answered
module _ (e : Inquiry → Option Answer) (before later : List ScopeRequest) (still : later ≡ before) where
  module _ (s : Surroundings) (x : Expression) where
    pub value-given : (value : List Text) → Answers (e (Value s x)) (Some (Valued value)) → AsksAlone e (value_steps s x) before later (Ok value)
    value-given value a = λ host entries. took-asked e host (Value s x) valued_answered (Valued value) entries before later (log_of entries later) (Ok value) refl a still (refl, inl refl)

    pub value-refused : (fault : Fault) (o : Option Answer) → o ≡ Some (Refused fault.message) → Answers (e (Value s x)) o → AsksAlone e (value_steps s x) before later (Err (Failed (Evaluate fault)))
    value-refused fault o is a = λ host entries. took-asked e host (Value s x) valued_answered (Refused fault.message) entries before later (log_of entries later) (Err (Failed (Evaluate fault))) refl (subst (Answers (e (Value s x))) is a) still (refl, inl refl)

  module _ (r : Recipe Dependency) (t : Task) (m : ModuleContents) where
    abbrev question : List Parameter → Text → Inquiry
    question ps name = Parameters m.context m.scope t.pair.groups t.dependency ps name

    module _ (ps : List Parameter) (name : Text) (are : ps ≡ r.parameters) (is : name ≡ lexeme r.name.token) where
      same-question : question ps name ≡ question r.parameters (lexeme r.name.token)
      same-question = λ i. question (are i) (is i)

      pub parameters-given : (h : Held) → Answers (e (question ps name)) (Some (Bound h)) → AsksAlone e (parameters_steps r t m) before later (Ok h)
      parameters-given h a = λ host entries. took-asked e host (question r.parameters (lexeme r.name.token)) bound_answered (Bound h) entries before later (log_of entries later) (Ok h) refl
          (subst (λ q. Answers (e q) (Some (Bound h))) same-question a) still (refl, inl refl)

      pub parameters-refused : (fault : Fault) (o : Option Answer) → o ≡ Some (Refused fault.message) → Answers (e (question ps name)) o → AsksAlone e (parameters_steps r t m) before later (Err (Failed (Evaluate fault)))
      parameters-refused fault o told a = λ host entries. took-asked e host (question r.parameters (lexeme r.name.token)) bound_answered (Refused fault.message) entries before later (log_of entries later) (Err (Failed (Evaluate fault))) refl
          (subst (λ q. Answers (e q) (Some (Refused fault.message))) same-question (subst (Answers (e (question ps name))) told a)) still (refl, inl refl)

-- the texts of the group at a place
pub group-there : (groups : List (List Text)) (k : ℕ) (g : List Text) → slice_get groups k ≡ Some g → g ≡ get_or groups k []
group-there [] k g e = cc
group-there (x ∷ groups) zero g e = let same : x ≡ g = cc in sym same
group-there (x ∷ groups) (suc k) g e = group-there groups k g e

pub group-past : (groups : List (List Text)) (k : ℕ) → slice_get groups k ≡ None → [] ≡ get_or groups k []
group-past [] k e = refl
group-past (x ∷ groups) zero e = cc
group-past (x ∷ groups) (suc k) e = group-past groups k e

-- a text alone at a place, whatever was there
pub spread-rest : (groups : List (List Text)) (k : ℕ) (texts : List Text) → map (with_text (set groups k []) k) texts ≡ map (with_text groups k) texts
spread-rest groups k [] = refl
spread-rest groups k (t ∷ texts) = ap (λ g. g ∷ map (with_text (set groups k []) k) texts) (set-set groups k [] (t ∷ [])) ∙ ap (λ gs. with_text groups k t ∷ gs) (spread-rest groups k texts)

-- the tasks that the texts of a starred group give, when they are taken out of it
pub tasks-spread : (place : ℕ) (recipes : List (Recipe Dependency)) (d : Dependency) (groups rest : List (List Text)) (star : ℕ) (texts : List Text)
    → place ≡ place_of recipes d.recipe.0 → position has_star d.arguments ≡ Some star → rest ≡ set groups star [] → texts ≡ get_or groups star []
    → map (task_at place) (map (with_text rest star) texts) ≡ tasks_with recipes d groups
tasks-spread place recipes d groups rest star texts p s r t =
    ap (λ (n : ℕ). map (task_at n) (map (with_text rest star) texts)) p
    ∙ ap (λ (gs : List (List Text)). map (task_at (place_of recipes d.recipe.0)) (map (with_text gs star) texts)) r
    ∙ ap (λ (ts : List Text). map (task_at (place_of recipes d.recipe.0)) (map (with_text (set groups star []) star) ts)) t
    ∙ ap (λ (own : List (List (List Text))). map (task_at (place_of recipes d.recipe.0)) own) (spread-rest groups star (get_or groups star []))
    ∙ ap (λ (o : Option ℕ). map (task_at (place_of recipes d.recipe.0)) (spread o groups)) (sym s)
