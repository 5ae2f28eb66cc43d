-- For every host a run has its account.
use Rattle.std.proofs.Common.{◌≡◌, ◌⊎◌, ℕ, zero, suc, ◌<◌, ◌≤◌, ◌^◌, true, false, List, [], ◌∷◌, ◌++◌, length, get_or, Option, Some, None, Result, Ok, Err, refl, sym, ◌∙◌, ap, subst, inl, inr, arith}
use Rattle.std.specs.List.{slice_get}
use Rattle.std.proofs.lemmas.Bool.{cases_Bool, cond-true, cond-false}
use Rattle.std.proofs.lemmas.List.{append-nil}
use Rattle.std.proofs.lemmas.List.Elements.{All-head, All-tail, All-cons, All-weaker}
use Rattle.just_graph.proofs.Members.{In, in_left, in_right}
use Rattle.just_parts.specs.Syntax.{SyntaxAnswers}
use Rattle.just_paths.specs.declared.modulepath.Modulepath.{Modulepath}
use Rattle.just_recipe.specs.declared.dependency.Dependency.{Dependency}
use Rattle.just_errors.specs.declared.halt.Halt.{Halt}
use Rattle.just_errors.specs.declared.halt.Halt.TheVariants.{Memory, Exhausted, Failed}
use Rattle.just_run_layers.specs.declared.host.Entry.TheVariants.{Begin}
use Rattle.just_recipe.specs.declared.recipe.Recipe.{Recipe}
use Rattle.just_run_layers.specs.Host.{Answer, Executed}
use Rattle.just_run_layers.specs.declared.held.Held.{Held}
use Rattle.just_run_layers.specs.Interactions.{Log, executed_in, Question, ToHost, Interaction, Return, and_then, HasTrace, logged}
use Rattle.just_run_layers.proofs.InteractionLemmas.{took-gives, took-split}
use Rattle.just_tasks.specs.declared.pair.Pair.{Pair}
use Rattle.just_execution.specs.Account.{AskedTask, OnceTables, NoMore, Asked, Began, own, executions, AreIn, AreNamed, Complete, counts, HasAccount, SaysOfTables, executed_by_recipe, at_path}
use Rattle.just_execution.specs.Firsts.{stands_among}
use Rattle.just_execution.specs.TaskInteractions.{ask_steps, begin_steps, body_of, execute_at, follow_steps, interactions_of, run_in}
use Rattle.just_tasks.specs.declared.task.Task.{Task}
use Rattle.just_tasks.specs.Pairs.{OnceTable, same_pair, prior_dependencies, subsequent_dependencies, AllBelow}
use Rattle.just_recipe.specs.Recipes.{DependenciesStandFirst}
use Rattle.just_tasks.specs.Scene.{ModuleContents, Scene}
use Rattle.just_execution.specs.Walking.{TaskInteractions, Prepared, State, counted, all_steps, opened, fresh_steps, block_steps, ran, ran_steps, visit_steps, walk_steps}
use Rattle.just_execution.proofs.Joined.{with_priors, asks, join, still-new, add-zero, none-in, none-below}
use Rattle.just_execution.proofs.Asked.{ask-named, ask-quiet, follow-named, follow-quiet}
use Rattle.just_execution.proofs.TaskInteractions.{named-below}
use Rattle.just_tasks.proofs.Places.{priors-before, subsequents-before}
use Rattle.just_run_layers.proofs.Quiet.{Quiet, executed-append, took-quiet}
use Rattle.just_execution.proofs.QuietRecipes.{recipe-quiet}
use Rattle.just_run_layers.proofs.Halts.{ok-is, ok-not, err-is, memory-not}
use Rattle.just_execution.proofs.Standing.{Stands, Walked, Accounts, IsFresh, Blocks, gained-none, gave, broke, stands-then, stands-low, accounts-then, accounts-broke, count-split, full-here, stands-asked, stands-opened, fresh-of, fresh-broke, block-broke, block-none, block-ran, ask-broke, priors-broke, visit-broke, visit-ran}

-- what steps for tasks keep: nothing is executed, and the tasks that they come to are what is named
pub record GivesNamed {A : Type 0} (tasks : A → List Task) (recipes : List (Recipe Dependency)) (dependencies : List Dependency) (old new : Log) (r : Result A Halt) : Type 0 where
  pub still : executed_in new ≡ executed_in old
  pub named : (x : A) → r ≡ Ok x → AreNamed recipes dependencies (tasks x)
  pub unfull : r ≡ Err Exhausted → ⊥

-- what the steps of a body keep: the task is executed, or they failed
pub record GivesExecuted (recipes : List (Recipe Dependency)) (t : Task) (old new : Log) (r : Result (Unit {0}) Halt) : Type 0 where
  pub whole : (x : Unit {0}) → r ≡ Ok x → executed_in new ≡ executed_in old ++ executions recipes (t ∷ [])
  pub broken : (e : Halt) → r ≡ Err e → (executed_in new ≡ executed_in old ++ executions recipes (t ∷ [])) ⊎ (executed_in new ≡ executed_in old)
  pub unfull : r ≡ Err Exhausted → ⊥

abbrev pub priors_of : Prepared → List Task
priors_of a = a.priors

abbrev pub themselves : List Task → List Task
themselves ts = ts

-- what is asked of one task keeps these, under the promises p
pub record AreAccounted (recipes : List (Recipe Dependency)) (of_task : TaskInteractions) (p : Question → Option Answer) : Type 0 where
  pub ask : (t : Task) (old new : Log) (r : Result Prepared Halt) → HasTrace p (of_task.ask t) old new r → GivesNamed priors_of recipes (prior_dependencies recipes t.pair.recipe) old new r
  pub follow : (t : Task) (h : Held) (old new : Log) (r : Result (List Task) Halt) → HasTrace p (of_task.follow t h) old new r → GivesNamed themselves recipes (subsequent_dependencies recipes t.pair.recipe) old new r
  pub execute : (t : Task) (h : Held) (old new : Log) (r : Result (Unit {0}) Halt) → HasTrace p (of_task.execute t h) old new r → GivesExecuted recipes t old new r

-- what the result says
tells-of : (recipes : List (Recipe Dependency)) (tops : List Task) (old new : Log) (r : Result (List ℕ) Halt) (u : OnceTables) → IsFresh recipes tops [] old new r u → SaysOfTables recipes tops u r
tells-of recipes tops old new (Ok calls) u a =
    let w : AreIn (own u) tops × Complete recipes u × (calls ≡ counts tops u) = a.whole calls refl in
    record { all_begun = w.0; complete = w.1; counted = w.2 }
tells-of recipes tops old new (Err Exhausted) u a = a.full refl
tells-of recipes tops old new (Err Memory) u a = tt
tells-of recipes tops old new (Err (Failed e)) u a = tt

module _ (recipes : List (Recipe Dependency)) (of_task : TaskInteractions) (p : Question → Option Answer) (ordered : DependenciesStandFirst recipes) (leaf : AreAccounted recipes of_task p) where
  -- what is proved of a walk of tasks below n
  abbrev WalkAt : ℕ → Type 0
  WalkAt n = (tops : List Task) (before : List AskedTask) (done : List Pair) (s : State) (t : Task) (old new : Log) (r : Result State Halt) →
      t.pair.recipe < n → Stands tops before done (suc t.pair.recipe) s (t ∷ []) →
      HasTrace p (walk_steps of_task n s t) old new r → (u : OnceTables) × Accounts recipes tops before done (suc t.pair.recipe) s (t ∷ []) old new r u

  -- tasks in turn, under one table
  all-at : (n : ℕ) → WalkAt n → (tops : List Task) (ts : List Task) (before : List AskedTask) (done : List Pair) (bound : ℕ) (s : State) (old new : Log) (r : Result State Halt) →
      bound ≤ n → AllBelow bound ts → Stands tops before done bound s ts →
      HasTrace p (all_steps (walk_steps of_task n) s ts) old new r → (u : OnceTables) × Accounts recipes tops before done bound s ts old new r u
  all-at n walk tops [] before done bound s old new r l b a t =
      (NoMore, gave recipes tops before done bound s s [] old new r refl a.table (sym (add-zero s.calls s.number)) (none-in done) t.0 t.1)
  all-at n walk tops (x ∷ xs) before done bound s old new r l b a t =
      let low : x.pair.recipe < bound = All-head (λ (q : Task). q.pair.recipe < bound) x xs b in
      let rest : AllBelow bound xs = All-tail (λ (q : Task). q.pair.recipe < bound) x xs b in
      let here : Stands tops before done (suc x.pair.recipe) s (x ∷ []) = stands-low tops before done (suc x.pair.recipe) bound s x xs (omega arith) a in
      let inside : x.pair.recipe < n = omega arith in
      let most : suc x.pair.recipe ≤ bound = omega arith in
      elim (took-split p (walk_steps of_task n s x) (λ now. all_steps (walk_steps of_task n) now xs) old new r t) [
        | inl (now, mid, gives, first, later) ↦
            let (u, c) = walk tops before done s x old mid (Ok now) inside here first in
            let w : Walked recipes done (x ∷ []) s now u = c.whole now refl in
            let (v, d) = all-at n walk tops xs (before ++ asks u) (done ++ own u) bound now mid new r l rest (stands-then recipes tops before done bound s now x xs u a w) later in
            (join u v, accounts-then recipes tops before done (suc x.pair.recipe) bound s now x xs old mid new r u v most a.number c d)
        | inr (e, h, first) ↦
            let (u, c) = walk tops before done s x old new (Err e) inside here first in
            (u, accounts-broke recipes tops before done (suc x.pair.recipe) bound s x xs old new r e u most h c)
      ]

  -- tasks under a table of their own
  fresh-at : (n : ℕ) → WalkAt n → (ts : List Task) (calls : List ℕ) (old new : Log) (r : Result (List ℕ) Halt) → AllBelow n ts →
      HasTrace p (fresh_steps (walk_steps of_task n) ts calls) old new r → (u : OnceTables) × IsFresh recipes ts calls old new r u
  fresh-at n walk [] calls old new r b t = (
    NoMore,
    record {
      gained = gained-none recipes old new (ap executed_in t.0);
      fits = tt;
      whole = λ now h. elim (t.1) [
        | inl k ↦ (none-in [], tt, ok-is r now calls h k ∙ sym (append-nil calls))
        | inr k ↦ absurd (ok-not r now Memory h k)
      ];
      full = λ h. elim (t.1) [
        | inl k ↦ absurd (ok-not r calls Exhausted k h)
        | inr k ↦ absurd (memory-not (err-is r Memory Exhausted k h))
      ];
    },
  )
  fresh-at n walk (x ∷ xs) calls old new r b t =
      let stands : Stands (x ∷ xs) [] [] n (opened calls) (x ∷ xs) = stands-opened (x ∷ xs) n calls in
      elim (took-split p (all_steps (walk_steps of_task n) (opened calls) (x ∷ xs)) (λ s. Return s.calls) old new r t) [
        | inl (now, mid, gives, first, later) ↦
            let (u, c) = all-at n walk (x ∷ xs) (x ∷ xs) [] [] n (opened calls) old mid (Ok now) (omega arith) b stands first in
            (u, subst (λ es. IsFresh recipes (x ∷ xs) calls old es r u) (sym later.0) (fresh-of recipes x xs n calls now old mid r u c later.1))
        | inr (e, h, first) ↦
            let (u, c) = all-at n walk (x ∷ xs) (x ∷ xs) [] [] n (opened calls) old new (Err e) (omega arith) b stands first in
            (u, fresh-broke recipes (x ∷ xs) n (opened calls) calls old new r e u c h)
      ]

  -- the body of a task, and its subsequents
  block-at : (n : ℕ) → WalkAt n →
      (tops : List Task) (before : List AskedTask) (done : List Pair) (t : Task) (h : Held) (ps : List Task) (calls : List ℕ) (old new : Log) (r : Result (List ℕ) Halt) → t.pair.recipe ≤ n →
      In (with_priors t ps) before → stands_among same_pair done t.pair ≡ false → AreIn done ps →
      HasTrace p (block_steps of_task (walk_steps of_task n) t h calls) old new r → (u : OnceTables) × Blocks recipes tops before done t ps calls old new r u
  block-at n walk tops before done t held ps calls old new r l i m d took =
      elim (took-split p (of_task.execute t held) (λ _. and_then (of_task.follow t held) (λ ts. fresh_steps (walk_steps of_task n) ts calls)) old new r took) [
        | inl (x, mid, gives, first, later) ↦
            let g : executed_in mid ≡ executed_in old ++ executions recipes (t ∷ []) = (leaf.execute t held old mid (Ok x) first).whole x refl in
            elim (took-split p (of_task.follow t held) (λ ts. fresh_steps (walk_steps of_task n) ts calls) mid new r later) [
              | inl (ss, next, given, second, last) ↦
                  let f : GivesNamed themselves recipes (subsequent_dependencies recipes t.pair.recipe) mid next (Ok ss) = leaf.follow t held mid next (Ok ss) second in
                  let named : AreNamed recipes (subsequent_dependencies recipes t.pair.recipe) ss = f.named ss refl in
                  let low : AllBelow t.pair.recipe ss = named-below recipes t.pair.recipe (subsequent_dependencies recipes t.pair.recipe) ss (subsequents-before recipes t.pair.recipe ordered) named in
                  let inside : AllBelow n ss = All-weaker (λ (q : Task). q.pair.recipe < t.pair.recipe) (λ (q : Task). q.pair.recipe < n) (λ q h. omega arith) ss low in
                  let (v, c) = fresh-at n walk ss calls next new r inside last in
                  (Began t ps ss v NoMore, block-ran recipes tops before done t ps ss calls old next new r v i m d named (f.still ∙ g) c)
              | inr (e, h, second) ↦
                  let f : GivesNamed themselves recipes (subsequent_dependencies recipes t.pair.recipe) mid new (Err e) = leaf.follow t held mid new (Err e) second in
                  (Began t ps [] NoMore NoMore, block-broke recipes tops before done t ps calls old new r e i m d h (λ k. f.unfull (ap (λ x. Err x) k)) (f.still ∙ g))
            ]
        | inr (e, h, first) ↦
            let f : GivesExecuted recipes t old new (Err e) = leaf.execute t held old new (Err e) first in
            elim (f.broken e refl) [
              | inl g ↦ (Began t ps [] NoMore NoMore, block-broke recipes tops before done t ps calls old new r e i m d h (λ k. f.unfull (ap (λ x. Err x) k)) g)
              | inr g ↦ (NoMore, block-none recipes tops before done t ps calls old new r e h (λ k. f.unfull (ap (λ x. Err x) k)) g)
            ]
      ]

  -- the visit of a task whose pair did not run
  abbrev asking : ℕ → State → Task → Interaction State
  asking n s t = and_then (of_task.ask t) (λ a. and_then (all_steps (walk_steps of_task n) (counted s) a.priors) (ran_steps of_task (walk_steps of_task n) t a.held))

  visit-at : (n : ℕ) → WalkAt n → (tops : List Task) (before : List AskedTask) (done : List Pair) (s : State) (t : Task) (old new : Log) (r : Result State Halt) → t.pair.recipe ≤ n →
      Stands tops before done (suc t.pair.recipe) s (t ∷ []) → stands_among same_pair done t.pair ≡ false →
      HasTrace p (asking n s t) old new r →
      (u : OnceTables) × Accounts recipes tops before done (suc t.pair.recipe) s (t ∷ []) old new r u
  visit-at n walk tops before done s t old new r l a m took =
      elim (took-split p (of_task.ask t) (λ a. and_then (all_steps (walk_steps of_task n) (counted s) a.priors) (ran_steps of_task (walk_steps of_task n) t a.held)) old new r took) [
        | inl (x, mid, gives, first, later) ↦
            let ps : List Task = x.priors in
            let f : GivesNamed priors_of recipes (prior_dependencies recipes t.pair.recipe) old mid (Ok x) = leaf.ask t old mid (Ok x) first in
            let named : AreNamed recipes (prior_dependencies recipes t.pair.recipe) ps = f.named x refl in
            let low : AllBelow t.pair.recipe ps = named-below recipes t.pair.recipe (prior_dependencies recipes t.pair.recipe) ps (priors-before recipes t.pair.recipe ordered) named in
            let stands : Stands tops (before ++ with_priors t ps ∷ []) done t.pair.recipe (counted s) ps = stands-asked tops before done s t ps a in
            elim (took-split p (all_steps (walk_steps of_task n) (counted s) ps) (ran_steps of_task (walk_steps of_task n) t x.held) mid new r later) [
              | inl (now, next, given, second, last) ↦
                  let (u, c) = all-at n walk tops ps (before ++ with_priors t ps ∷ []) done t.pair.recipe (counted s) mid next (Ok now) l low stands second in
                  let w : Walked recipes done ps (counted s) now u = c.whole now refl in
                  let member : In (with_priors t ps) ((before ++ with_priors t ps ∷ []) ++ asks u) =
                  in_left (with_priors t ps) (before ++ with_priors t ps ∷ []) (asks u) (in_right (with_priors t ps) before (with_priors t ps ∷ []) (inl refl)) in
                  let unbegun : stands_among same_pair (done ++ own u) t.pair ≡ false = still-new done (own u) t.pair m c.low in
                  elim (took-split p (block_steps of_task (walk_steps of_task n) t x.held now.calls) (λ calls. Return (ran now t calls)) next new r last) [
                    | inl (calls, end, gave_it, third, rest) ↦
                        let (v, b) = block-at n walk tops ((before ++ with_priors t ps ∷ []) ++ asks u) (done ++ own u) t x.held ps now.calls next end (Ok calls) l member unbegun w.all_done third in (
                          Asked (with_priors t ps) (join u v),
                          subst (λ es. Accounts recipes tops before done (suc t.pair.recipe) s (t ∷ []) old es r (Asked (with_priors t ps) (join u v))) (sym rest.0)
                              (visit-ran recipes tops before done s now t ps calls old mid next end r u v a m named f.still c b rest.1),
                        )
                    | inr (e, h, third) ↦
                        let (v, b) = block-at n walk tops ((before ++ with_priors t ps ∷ []) ++ asks u) (done ++ own u) t x.held ps now.calls next new (Err e) l member unbegun w.all_done third in
                        (Asked (with_priors t ps) (join u v), visit-broke recipes tops before done s now t ps now.calls old mid next new r e u v a m named f.still h c b)
                  ]
              | inr (e, h, second) ↦
                  let (u, c) = all-at n walk tops ps (before ++ with_priors t ps ∷ []) done t.pair.recipe (counted s) mid new (Err e) l low stands second in
                  (Asked (with_priors t ps) u, priors-broke recipes tops before done s t ps old mid new r e u a m named f.still h c)
            ]
        | inr (e, h, first) ↦
            let f : GivesNamed priors_of recipes (prior_dependencies recipes t.pair.recipe) old new (Err e) = leaf.ask t old new (Err e) first in
            (Asked (with_priors t []) NoMore, ask-broke recipes tops before done s t old new r e a m h (λ k. f.unfull (ap (λ x. Err x) k)) f.still)
      ]

  -- one place more
  step-at : (n : ℕ) → WalkAt n → WalkAt (suc n)
  step-at n walk tops before done s t old new r l a took =
      let within : t.pair.recipe ≤ n = omega arith in
      elim (count-split p (get_or s.calls s.number 0) (2 ^ 64) (counted s) (visit_steps of_task (walk_steps of_task n) t) old new r took) [
        | inl (inl (e, c, h)) ↦ (
          NoMore,
          broke recipes tops before done (suc t.pair.recipe) s (t ∷ []) old new r NoMore Exhausted h (gained-none recipes old new (ap executed_in e)) tt (none-below (suc t.pair.recipe))
              (λ k. inl (full-here tops before done (suc t.pair.recipe) s t (2 ^ 64) a c)),
        )
        | inl (inr (e, h)) ↦ (
          NoMore,
          broke recipes tops before done (suc t.pair.recipe) s (t ∷ []) old new r NoMore Memory h (gained-none recipes old new (ap executed_in e)) tt (none-below (suc t.pair.recipe))
              (λ k. absurd (memory-not k)),
        )
        | inr visit ↦ elim (cases_Bool (s.table t.pair)) [
          | inl h ↦
              let given : HasTrace p (Return (counted s)) old new r = subst (λ (q : Interaction State). HasTrace p q old new r)
              (cond-true (s.table t.pair) (Return (counted s)) (asking n s t) h) visit in
              let here : stands_among same_pair done t.pair ≡ true = sym (ap (λ (f : OnceTable). f t.pair) a.table) ∙ h in (
                NoMore,
                gave recipes tops before done (suc t.pair.recipe) s (counted s) (t ∷ []) old new r refl a.table refl
                    (All-cons (λ (q : Task). stands_among same_pair done q.pair ≡ true) t [] here (none-in done)) given.0 given.1,
              )
          | inr h ↦
              let going : HasTrace p (asking n s t) old new r = subst (λ (q : Interaction State). HasTrace p q old new r)
              (cond-false (s.table t.pair) (Return (counted s)) (asking n s t) h) visit in
              let missing : stands_among same_pair done t.pair ≡ false = sym (ap (λ (f : OnceTable). f t.pair) a.table) ∙ h in
              visit-at n walk tops before done s t old new r within a missing going
        ]
      ]

  walk-at : (n : ℕ) → WalkAt n
  walk-at zero tops before done s t old new r l a took = absurd (omega arith)
  walk-at (suc n) tops before done s t old new r l a took = step-at n (walk-at n) tops before done s t old new r l a took

  -- a run of tasks below n has its account
  pub account-of : (n : ℕ) (tops : List Task) → AllBelow n tops → (old new : Log) (r : Result (List ℕ) Halt) → HasTrace p (fresh_steps (walk_steps of_task n) tops []) old new r →
      (t : OnceTables) × HasAccount recipes old new tops t × SaysOfTables recipes tops t r
  account-of n tops b old new r took =
      let (u, a) = fresh-at n (walk-at n) tops [] old new r b took in
      (u, record { gained = a.gained; fits = a.fits }, tells-of recipes tops old new r u a)

-- what is asked of the tasks of a scene
asked-named : (scene : Scene) (p : Question → Option Answer) (t : Task) (old new : Log) (r : Result Prepared Halt) →
    HasTrace p (ask_steps scene t) old new r → GivesNamed priors_of scene.recipes (prior_dependencies scene.recipes t.pair.recipe) old new r
asked-named scene p t old new r took =
    let quiet = took-quiet p (ask_steps scene t) old new r (ask-quiet scene t) took in
    record {
      still = quiet.0;
      named = λ a h. ask-named scene t a (took-gives p (ask_steps scene t) old new a (subst (HasTrace p (ask_steps scene t) old new) h took));
      unfull = quiet.1;
    }

followed-named : (scene : Scene) (p : Question → Option Answer) (t : Task) (held : Held) (old new : Log) (r : Result (List Task) Halt) →
    HasTrace p (follow_steps scene t held) old new r → GivesNamed themselves scene.recipes (subsequent_dependencies scene.recipes t.pair.recipe) old new r
followed-named scene p t held old new r took =
    let quiet = took-quiet p (follow_steps scene t held) old new r (follow-quiet scene t held) took in
    record {
      still = quiet.0;
      named = λ ts h. follow-named scene t held ts (took-gives p (follow_steps scene t held) old new ts (subst (HasTrace p (follow_steps scene t held) old new) h took));
      unfull = quiet.1;
    }

abbrev IsExecuted : List Executed → Log → Log → Result (Unit {0}) Halt → Type 0
IsExecuted es old new r = ((executed_in new ≡ executed_in old ++ es) × (r ≡ Err Exhausted → ⊥)) ⊎ ((executed_in new ≡ executed_in old) × (r ≡ Err Memory))

-- where what follows is quiet, a recipe that began was executed, and nothing else
ran-on : (p : Question → Option Answer) (s : Interaction (Unit {0})) (es : List Executed) (old mid new : Log) (r : Result (Unit {0}) Halt) → Quiet s → executed_in mid ≡ executed_in old ++ es → HasTrace p s mid new r → IsExecuted es old new r
ran-on p s es old mid new r q h took = let quiet = took-quiet p s mid new r q took in inl (quiet.0 ∙ h, quiet.1)

begin-executes : (p : Question → Option Answer) (groups : List (List (List ℕ))) (o : Option Modulepath) (s : Interaction (Unit {0})) (old new : Log) (r : Result (Unit {0}) Halt) → Quiet s →
    HasTrace p (and_then (begin_steps groups o) (λ _. s)) old new r → IsExecuted (at_path groups o) old new r
begin-executes p groups None s old new r q took = ran-on p s [] old old new r q (sym (append-nil (executed_in old))) took
begin-executes p groups (Some path) s old new r q (inl t) = inr (ap executed_in t.0, t.1)
begin-executes p groups (Some path) s old new r q (inr t) =
    ran-on p s (at_path groups (Some path)) old (logged (ToHost (Begin path groups)) old) new r q (executed-append old.entries (Begin path groups ∷ [])) t.2

run-quiet : (syntax : SyntaxAnswers) (t : Task) (h : Held) (r : Recipe Dependency) (o : Option ModuleContents) → Quiet (run_in syntax t h r o)
run-quiet syntax t h r None = memory-not
run-quiet syntax t h r (Some m) = recipe-quiet (body_of syntax t r m h)

recipe-executes : (scene : Scene) (p : Question → Option Answer) (t : Task) (h : Held) (o : Option (Recipe Dependency)) (old new : Log) (r : Result (Unit {0}) Halt) → HasTrace p (execute_at scene t h o) old new r →
    IsExecuted (executed_by_recipe t o) old new r
recipe-executes scene p t h None old new r took = ran-on p (Return tt) [] old old new r tt (sym (append-nil (executed_in old))) took
recipe-executes scene p t h (Some recipe) old new r took =
    begin-executes p t.pair.groups recipe.recipe_path (run_in scene.syntax t h recipe (scene.modules recipe.module_path)) old new r (run-quiet scene.syntax t h recipe (scene.modules recipe.module_path)) took

gives-executed : (recipes : List (Recipe Dependency)) (t : Task) (old new : Log) (r : Result (Unit {0}) Halt) →
    IsExecuted (executed_by_recipe t (slice_get recipes t.pair.recipe)) old new r → GivesExecuted recipes t old new r
gives-executed recipes t old new r (inl h) =
    let one : executed_in old ++ executed_by_recipe t (slice_get recipes t.pair.recipe) ≡ executed_in old ++ executions recipes (t ∷ []) =
    ap (λ x. executed_in old ++ x) (sym (append-nil (executed_by_recipe t (slice_get recipes t.pair.recipe)))) in
    record { whole = λ x k. h.0 ∙ one; broken = λ e k. inl (h.0 ∙ one); unfull = h.1 }
gives-executed recipes t old new r (inr h) = record {
  whole = λ x k. absurd (ok-not r x Memory k h.1);
  broken = λ e k. inr h.0;
  unfull = λ k. absurd (memory-not (err-is r Memory Exhausted h.1 k));
}

pub leaves-accounted : (scene : Scene) (p : Question → Option Answer) → AreAccounted scene.recipes (interactions_of scene) p
leaves-accounted scene p = record {
  ask = λ t old new r h. asked-named scene p t old new r h;
  follow = λ t held old new r h. followed-named scene p t held old new r h;
  execute = λ t held old new r h. gives-executed scene.recipes t old new r (recipe-executes scene p t held (slice_get scene.recipes t.pair.recipe) old new r h);
}

-- The account of a run of a scene, for every host.
pub fresh-account : (scene : Scene) → DependenciesStandFirst scene.recipes → (p : Question → Option Answer) (tops : List Task) →
    AllBelow (length scene.recipes) tops → (old new : Log) (r : Result (List ℕ) Halt) →
    HasTrace p (fresh_steps (walk_steps (interactions_of scene) (length scene.recipes)) tops []) old new r → (t : OnceTables) × HasAccount scene.recipes old new tops t × SaysOfTables scene.recipes tops t r
fresh-account scene ordered p tops below old new r took = account-of scene.recipes (interactions_of scene) p ordered (leaves-accounted scene p) (length scene.recipes) tops below old new r took
