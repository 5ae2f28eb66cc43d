-- What tasks lead to whose recipes have their module's scope has it too.
use Rattle.std.proofs.Common.{◌≡◌, Bool, true, false, ℕ, zero, suc, ◌<◌, List, [], ◌∷◌, length, map, drop, take, Option, None, Some, Ok, refl, sym, ◌∙◌, ap, subst, arith}
use Rattle.std.specs.List.{All, Contains, slice_get}
use Rattle.std.proofs.lemmas.List.Elements.{All-contains, All-contains_itself, All-drop, All-nil, All-take, All-weaker}
use Rattle.just_graph.specs.Steps.{Reached, from_start, from_member}
use Rattle.just_graph.proofs.Members.{contained, in_map, is_in, the_one}
use Rattle.just_recipe.specs.declared.dependency.Dependency.{Dependency}
use Rattle.just_recipe.specs.declared.recipe.Recipe.{Recipe}
use Rattle.just_recipe.specs.Recipes.{DependenciesStandFirst}
use Rattle.just_run_layers.specs.Evaluation.{Inquiry, ScopeRequest}
use Rattle.just_run_layers.specs.declared.held.Held.{Held}
use Rattle.just_run_layers.specs.declared.host.Entry.{Entry}
use Rattle.just_parts.specs.Syntax.{SyntaxAnswers}
use Rattle.just_run_layers.specs.Host.{Answer}
use Rattle.just_run_layers.specs.Interactions.{both, Log, log_of}
use Rattle.just_run_layers.proofs.InteractionLemmas.{took-gives}
use Rattle.just_execution.specs.Account.{AreNamed}
use Rattle.just_tasks.specs.Homes.{AllHaveModuleScope, HasModuleScope, Modules, module_scope_at}
use Rattle.just_execution.specs.loops.Homes.{IsCallable, IsServed, ServesIn}
use Rattle.just_execution.specs.TaskInteractions.{ask_steps, follow_steps}
use Rattle.just_run_layers.specs.loops.Interactions.{AsksAlone}
use Rattle.just_execution.specs.loops.TaskInteractions.{Prepares}
use Rattle.just_tasks.specs.Pairs.{AllBelow, at_place, needed}
use Rattle.just_recipes.specs.Places.{place_of}
use Rattle.just_tasks.specs.Leading.{DependsOnPlace, places}
use Rattle.just_tasks.specs.Scene.{Scene, contents_found, scope_contents_of, lone, running, scene_with}
use Rattle.just_tasks.proofs.Lone.{as_run, none-after, none-before, same-module}
use Rattle.just_execution.specs.Walking.{Prepared}
use Rattle.just_tasks.specs.declared.scopes.ModuleScope.{ModuleScope}
use Rattle.just_tasks.specs.declared.task.Task.{Task}
use Rattle.just_execution.proofs.Asked.{ask-named, follow-named, named-all}
use Rattle.just_tasks.proofs.Places.{IsBefore, priors-before, subsequents-before}

-- what is reached from some places is reached from others that lead to these
reached-from : {R : ℕ → ℕ → Type 0} (first second : List ℕ) → ((a : ℕ) → Contains first a → Reached R second [] a) → (b : ℕ) → Reached R first [] b → Reached R second [] b
reached-from first second h b (from_start c) = h b c
reached-from first second h b (from_member {a = a} r on s) = from_member (reached-from first second h a r) refl s

-- what runs before a recipe, or after it, is among what it depends on
part-needed : (part : Recipe Dependency → List Dependency) → ((r : Recipe Dependency) (P : Dependency → Type 0) → All P r.dependencies → All P (part r)) →
    (rs : List (Recipe Dependency)) (k : ℕ) → All (Contains (at_place (λ r. r.dependencies) rs k)) (at_place part rs k)
part-needed part some [] k = All-nil (Contains [])
part-needed part some (r ∷ rs) zero = some r (Contains r.dependencies) (All-contains_itself r.dependencies)
part-needed part some (r ∷ rs) (suc k) = part-needed part some rs k

module _ (answers : SyntaxAnswers) (modules : Modules) (rs : List (Recipe Dependency)) where
  -- each of several tasks can be called
  pub each-callable : (ts : List Task) → AllBelow (length rs) ts → AllHaveModuleScope answers modules rs ts → All (IsCallable answers modules rs) ts
  each-callable ts below home = All-weaker (Contains ts) (IsCallable answers modules rs)
      (λ t c. record {
        place = All-contains (λ (t : Task). t.pair.recipe < length rs) ts t below c;
        home = λ place recipe led at. home place recipe (reached-from (places (t ∷ [])) (places ts)
            (λ a d. from_start (subst (Contains (places ts)) (the_one t.pair.recipe a d) (contained _ _ (in_map (λ (t : Task). t.pair.recipe) t ts (is_in t ts c))))) place led) at;
      }) ts (All-contains_itself ts)

  module _ (t : Task) (callable : IsCallable answers modules rs t) where
    -- its own recipe
    pub home-of : (r : Recipe Dependency) → slice_get rs t.pair.recipe ≡ Some r → HasModuleScope answers modules r
    home-of r at = callable.home t.pair.recipe r (from_start (0, omega arith, refl)) at

    -- a task of what its recipe depends on
    next-home : (u : Task) → DependsOnPlace rs t.pair.recipe u.pair.recipe → AllHaveModuleScope answers modules rs (u ∷ [])
    next-home u step = λ place recipe led at. callable.home place recipe
        (reached-from (places (u ∷ [])) (places (t ∷ []))
        (λ a c. from_member (from_start (0, omega arith, refl)) refl (subst (DependsOnPlace rs t.pair.recipe) (the_one u.pair.recipe a c) step)) place led) at

    -- tasks of some of what its recipe depends on
    named-callable : (ds : List Dependency) → All (Contains (needed rs t.pair.recipe)) ds → All (IsBefore rs t.pair.recipe) ds → (ts : List Task) → AreNamed rs ds ts → All (IsCallable answers modules rs) ts
    named-callable ds some before ts named =
        let step : ℕ → Type 0 = λ place. (place < length rs) × DependsOnPlace rs t.pair.recipe place in
        let there : (d : Dependency) → Contains (needed rs t.pair.recipe) d → DependsOnPlace rs t.pair.recipe (place_of rs d.recipe.0) =
        λ d c. contained _ _ (in_map (λ (d : Dependency). place_of rs d.recipe.0) d (needed rs t.pair.recipe) (is_in d (needed rs t.pair.recipe) c)) in
        let steps : All (λ (d : Dependency). step (place_of rs d.recipe.0)) ds =
        λ k d l. (let low = (before k d l).1 in omega (arith, low, callable.place), there _ (some k d l)) in
        All-weaker (λ (u : Task). step u.pair.recipe) (IsCallable answers modules rs) (λ u q. record { place = q.0; home = next-home u q.1 }) ts (named-all rs step ds ts named steps)

    -- the tasks that it was asked for
    -- where no dependencies run they are none
    ran-callable : (part : Recipe Dependency → List Dependency) → ((rs : List (Recipe Dependency)) (k : ℕ) → at_place part (map lone rs) k ≡ []) → All (Contains (needed rs t.pair.recipe)) (at_place part rs t.pair.recipe) → All (IsBefore rs t.pair.recipe) (at_place part rs t.pair.recipe) →
        (b : Bool) (ts : List Task) → AreNamed (running b rs) (at_place part (running b rs) t.pair.recipe) ts → All (IsCallable answers modules rs) ts
    ran-callable part none some before true ts named =
        subst (All (IsCallable answers modules rs)) (sym (subst (λ (ds : List Dependency). AreNamed (map lone rs) ds ts) (none rs t.pair.recipe) named)) (All-nil (IsCallable answers modules rs))
    ran-callable part none some before false ts named = named-callable (at_place part rs t.pair.recipe) some before ts named

    module _ (b : Bool) (ordered : DependenciesStandFirst rs) (e : Inquiry → Option Answer) where
      abbrev seen : Scene
      seen = scene_with answers modules (running b rs)

      pub asked-callable : (h : Entry → Option Answer) (old new : Log) (a : Prepared) → Prepares e h seen t old new (Ok a) → All (IsCallable answers modules rs) a.priors
      asked-callable h old new a took =
          ran-callable (λ r. take r.priors r.dependencies) none-before (part-needed (λ r. take r.priors r.dependencies) (λ r P h. All-take P r.priors r.dependencies h) rs t.pair.recipe)
          (priors-before rs t.pair.recipe ordered) b a.priors (ask-named seen t a (took-gives (both e h) (ask_steps seen t) old new a took))

      pub followed-callable : (held : Held) (before later : List ScopeRequest) (ts : List Task) → AsksAlone e (follow_steps seen t held) before later (Ok ts) → All (IsCallable answers modules rs) ts
      followed-callable held before later ts took =
          ran-callable (λ r. drop r.priors r.dependencies) none-after (part-needed (λ r. drop r.priors r.dependencies) (λ r P h. All-drop P r.priors r.dependencies h) rs t.pair.recipe)
          (subsequents-before rs t.pair.recipe ordered) b ts
          (follow-named seen t held ts (took-gives (both e (λ entry. None)) (follow_steps seen t held) (log_of [] before) (log_of [] later) ts (took (λ entry. None) [])))

-- what serves a task in its module serves it wherever it runs, and the other way round
one-value : {A : Type 0} (o : Option A) (x y : A) → o ≡ Some x → o ≡ Some y → x ≡ y
one-value o x y h k = cc

pub contents-there : (answers : SyntaxAnswers) (modules : Modules) (b : Bool) (rs : List (Recipe Dependency)) (r : Recipe Dependency) (m : ModuleScope) → module_scope_at modules r.module_path ≡ Some m →
    (scene_with answers modules (running b rs)).modules (as_run b r).module_path ≡ Some (scope_contents_of m)
contents-there answers modules b rs r m there = ap (λ path. contents_found (module_scope_at modules path)) (same-module r b) ∙ ap contents_found there

module _ (answers : SyntaxAnswers) (modules : Modules) (rs : List (Recipe Dependency)) (t : Task) (h : Held) (m : ModuleScope) (r : Recipe Dependency) (at : slice_get rs t.pair.recipe ≡ Some r)
    (there : module_scope_at modules r.module_path ≡ Some m) where
  pub is-served : ServesIn answers m r h → IsServed answers modules rs t h
  is-served serves = λ n s here found.
      let same : r ≡ s = one-value (slice_get rs t.pair.recipe) r s at here in
      let own : m ≡ n = one-value (module_scope_at modules s.module_path) m n (subst (λ (r : Recipe Dependency). module_scope_at modules r.module_path ≡ Some m) same there) found in
      subst (λ m. ServesIn answers m s h) own (subst (λ (r : Recipe Dependency). ServesIn answers m r h) same serves)

  pub serves-in : IsServed answers modules rs t h → ServesIn answers m r h
  serves-in served = served m r at there
