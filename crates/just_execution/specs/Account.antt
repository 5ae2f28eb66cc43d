-- What happened in a run: a tree of once tables.
use Rattle.std.specs.Prelude.{◌≡◌, ◌≤◌, ◌^◌, ℕ, ◌+◌, true, false, List, [], ◌∷◌, ◌++◌, length, map, flat_map, ◌⊎◌, Option, Some, None, Result, Ok, Err}
use Rattle.std.specs.List.{All, position, slice_get}
use Rattle.just_graph.specs.Members.{In}
use Rattle.just_paths.specs.declared.modulepath.Modulepath.{Modulepath}
use Rattle.just_run_layers.specs.Interactions.{Log, executed_in}
use Rattle.just_recipe.specs.Starred.{has_star}
use Rattle.just_recipe.specs.declared.dependency.Dependency.{Dependency}
use Rattle.just_errors.specs.declared.halt.Halt.{Halt}
use Rattle.just_errors.specs.declared.halt.Halt.TheVariants.{Memory, Exhausted, Failed}
use Rattle.just_recipe.specs.declared.recipe.Recipe.{Recipe}
use Rattle.just_run_layers.specs.Host.{Executed}
use Rattle.just_tasks.specs.declared.pair.Pair.{Pair}
use Rattle.just_execution.specs.Firsts.{stands_among}
use Rattle.just_tasks.specs.declared.task.Task.{Task}
use Rattle.just_tasks.specs.Pairs.{same_pair, prior_dependencies, subsequent_dependencies}
use Rattle.just_recipes.specs.Places.{place_of}

-- a task that was asked, with its priors (none where asking for them failed)
pub record AskedTask : Type 0 where
  pub task : Task
  pub priors : List Task

-- what happened in one table, in order: a task asked; or a task begun, with its priors, its subsequents and the table below whose tops these are
pub data OnceTables : Type 0 where
  NoMore : OnceTables
  Asked : (asked : AskedTask) (rest : OnceTables) → OnceTables
  Began : (task : Task) (priors subsequents : List Task) (below rest : OnceTables) → OnceTables

-- the pairs begun in the table itself
abbrev pub own : OnceTables → List Pair
own NoMore = []
own (Asked a rest) = own rest
own (Began t ps ss below rest) = t.pair ∷ own rest

-- those begun in it and below, in order: a table below stands directly after its task
abbrev pub begun : OnceTables → List Task
begun NoMore = []
begun (Asked a rest) = begun rest
begun (Began t ps ss below rest) = t ∷ (begun below ++ begun rest)

-- a task as it is executed: under the path of its recipe
abbrev pub at_path : List (List (List ℕ)) → Option Modulepath → List Executed
at_path groups None = []
at_path groups (Some path) = record { path = path; groups = groups } ∷ []

abbrev pub executed_by_recipe : Task → Option (Recipe Dependency) → List Executed
executed_by_recipe t None = []
executed_by_recipe t (Some recipe) = at_path t.pair.groups recipe.recipe_path

abbrev pub executions : List (Recipe Dependency) → List Task → List Executed
executions recipes ts = flat_map (λ (t : Task). executed_by_recipe t (slice_get recipes t.pair.recipe)) ts

-- the pair of each task is among some pairs
abbrev pub AreIn : List Pair → List Task → Type 0
AreIn done ts = All (λ (t : Task). stands_among same_pair done t.pair ≡ true) ts

-- what may be asked: the tops, and the priors of those asked
abbrev pub may_be_asked : List Task → List AskedTask → List Task
may_be_asked tops asked = tops ++ flat_map (λ (a : AskedTask). a.priors) asked

-- the pairs of those asked
abbrev pub pairs_asked : List AskedTask → List Pair
pairs_asked asked = map (λ (a : AskedTask). a.task.pair) asked

-- tasks that a dependency stands for: of the recipe that it names, each as a dependency, and one where it has no star
pub record StandFor (recipes : List (Recipe Dependency)) (d : Dependency) (ts : List Task) : Type 0 where
  pub named : All (λ (t : Task). (t.pair.recipe ≡ place_of recipes d.recipe.0) × (t.dependency ≡ true)) ts
  pub once : position has_star d.arguments ≡ None → length ts ≡ 1

-- tasks of the recipes that dependencies name, in order
abbrev pub AreNamed : List (Recipe Dependency) → List Dependency → List Task → Type 0
AreNamed recipes [] ts = ts ≡ []
AreNamed recipes (d ∷ ds) ts = (these : List Task) × (others : List Task) × (ts ≡ these ++ others) × StandFor recipes d these × AreNamed recipes ds others

-- a task asked in a table with these tops, where some were asked: it is a top or a prior of one of these, and its pair was not asked;
-- its priors are what its recipe names, or asking for them was the last that happened in the table
pub record AskFits (recipes : List (Recipe Dependency)) (tops : List Task) (asked : List AskedTask) (a : AskedTask) (rest : OnceTables) : Type 0 where
  pub from : In a.task (may_be_asked tops asked)
  pub unasked : stands_among same_pair (pairs_asked asked) a.task.pair ≡ false
  pub named : AreNamed recipes (prior_dependencies recipes a.task.pair.recipe) a.priors ⊎ ((a.priors ≡ []) × (rest ≡ NoMore))

-- a task begun where some were asked and some begun: it was asked, its pair was not begun, and those of its priors were;
-- its subsequents are what its recipe names, or its beginning was the last that happened in the table
pub record RunFits (recipes : List (Recipe Dependency)) (asked : List AskedTask) (done : List Pair) (t : Task) (ps ss : List Task) (below rest : OnceTables) : Type 0 where
  pub asked_before : In (record { task = t; priors = ps }) asked
  pub unbegun : stands_among same_pair done t.pair ≡ false
  pub priors_begun : AreIn done ps
  pub named : AreNamed recipes (subsequent_dependencies recipes t.pair.recipe) ss ⊎ ((ss ≡ []) × (below ≡ NoMore) × (rest ≡ NoMore))

-- what happened in a table with these tops, where some were asked and some begun, and in those below it
abbrev pub FitsTables : List (Recipe Dependency) → List Task → List AskedTask → List Pair → OnceTables → Type 0
FitsTables recipes tops asked done NoMore = Unit {0}
FitsTables recipes tops asked done (Asked a rest) = AskFits recipes tops asked a rest × FitsTables recipes tops (asked ++ a ∷ []) done rest
FitsTables recipes tops asked done (Began t ps ss below rest) =
    RunFits recipes asked done t ps ss below rest × FitsTables recipes ss [] [] below × FitsTables recipes tops asked (done ++ t.pair ∷ []) rest

-- the subsequents of each task begun are what its recipe names, and each was begun in the table below
abbrev pub Complete : List (Recipe Dependency) → OnceTables → Type 0
Complete recipes NoMore = Unit {0}
Complete recipes (Asked a rest) = Complete recipes rest
Complete recipes (Began t ps ss below rest) =
    AreNamed recipes (subsequent_dependencies recipes t.pair.recipe) ss × AreIn (own below) ss × Complete recipes below × Complete recipes rest

-- the number of priors of the tasks begun in a table, and of those asked in it
abbrev pub prior_count : OnceTables → ℕ
prior_count NoMore = 0
prior_count (Asked a rest) = prior_count rest
prior_count (Began t ps ss below rest) = length ps + prior_count rest

abbrev pub asked_count : OnceTables → ℕ
asked_count NoMore = 0
asked_count (Asked a rest) = length a.priors + asked_count rest
asked_count (Began t ps ss below rest) = asked_count rest

-- none without tops
abbrev pub if_any : List Task → List ℕ → List ℕ
if_any [] ns = []
if_any (t ∷ ts) ns = ns

-- for a table with these tops and then those below it, in the order of opening: its tops and the priors of its tasks
abbrev pub counts_below : OnceTables → List ℕ
counts_below NoMore = []
counts_below (Asked a rest) = counts_below rest
counts_below (Began t ps ss below rest) = if_any ss ((length ss + prior_count below) ∷ counts_below below) ++ counts_below rest

-- the counts of a table with these tops, and of those below it
abbrev pub counts : List Task → OnceTables → List ℕ
counts tops t = if_any tops ((length tops + prior_count t) ∷ counts_below t)

-- a table with these tops, or one below it, was to be called more often than 64 bits can count
abbrev pub IsFullBelow : OnceTables → Type 0
IsFullBelow NoMore = ⊥
IsFullBelow (Asked a rest) = IsFullBelow rest
IsFullBelow (Began t ps ss below rest) = ((2 ^ 64 ≤ length ss + asked_count below) ⊎ IsFullBelow below) ⊎ IsFullBelow rest

abbrev pub IsFull : List Task → OnceTables → Type 0
IsFull tops t = (2 ^ 64 ≤ length tops + asked_count t) ⊎ IsFullBelow t

-- The account of a run of these tops, for every host: the recipes executed, in order, are those of a tree of once tables.
pub record HasAccount (recipes : List (Recipe Dependency)) (old new : Log) (tops : List Task) (t : OnceTables) : Type 0 where
  pub gained : executed_in new ≡ executed_in old ++ executions recipes (begun t)
  pub fits : FitsTables recipes tops [] [] t

-- a run that succeeds: each top was begun, and the calls are counted
pub record IsWhole (recipes : List (Recipe Dependency)) (tops : List Task) (t : OnceTables) (calls : List ℕ) : Type 0 where
  pub all_begun : AreIn (own t) tops
  pub complete : Complete recipes t
  pub counted : calls ≡ counts tops t

-- what the result of a run says of its account
abbrev pub SaysOfTables : List (Recipe Dependency) → List Task → OnceTables → Result (List ℕ) Halt → Type 0
SaysOfTables recipes tops t (Ok calls) = IsWhole recipes tops t calls
SaysOfTables recipes tops t (Err Exhausted) = IsFull tops t
SaysOfTables recipes tops t (Err Memory) = Unit {0}
SaysOfTables recipes tops t (Err (Failed e)) = Unit {0}
