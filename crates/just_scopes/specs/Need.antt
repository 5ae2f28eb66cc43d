-- Which variables of a module a run needs.
use Rattle.std.specs.Prelude.{◌≡◌, ◌↔◌, ◌||◌, ℕ, Bool, true, false, cond, List, Some, None, IsSome}
use Rattle.std.specs.List.{slice_get}
use Rattle.just_ast_definitions.specs.declared.assignment.Assignment.{Assignment}
use Rattle.just_ast_expressions.specs.declared.settings.Settings.{Settings}
use Rattle.just_tasks.specs.Leading.{LeadTo}
use Rattle.just_tasks.specs.declared.task.Task.{Task}
use Rattle.just_justfile.specs.Closed.{StandsIn}
use Rattle.just_justfile.specs.Running.{IsReadBy, NeedsIn, known_by_tables}
use Rattle.just_justfile.specs.declared.justfile.Justfile.{Justfile, out-Justfile}
use Rattle.just_names.specs.Texts.{Text}
use Rattle.just_names.specs.declared.number.Number.{Number}
use Rattle.just_parts.specs.Needs.{IsNumberIn}
use Rattle.just_parts.specs.Syntax.{SyntaxAnswers}
use Rattle.just_recipe.specs.declared.dependency.Dependency.{Dependency}
use Rattle.just_recipe.specs.declared.recipe.Recipe.{Recipe}
use Rattle.just_run_layers.specs.Evaluation.{NumberSet}
use Rattle.just_table.specs.Entries.{find}

-- a variable that is evaluated whether or not it is read: eager, exported, or any where recipes have all in their environment
abbrev pub is_chosen : Settings → Assignment → Bool
is_chosen settings a = a.eager || (a.export || settings.export)

-- the recipe at a place to which tasks lead is one of the module
pub record RunsInModule (recipes : List (Recipe Dependency)) (tops : List Task) (j : Justfile) (place : ℕ) (r : Recipe Dependency) : Type 0 where
  pub led : LeadTo recipes tops place
  pub there : slice_get recipes place ≡ Some r
  pub path : r.module_path ≡ Some (out-Justfile j).module_path

-- What a run needs at once of a module: the variables that are evaluated anyhow, and those that a recipe of the module reads to which tasks lead.
pub data NeedsAtOnce (answers : SyntaxAnswers) (recipes : List (Recipe Dependency)) (tops : List Task) (j : Justfile) : Text → Type 0 where
  chosen : {name : Text} (a : Assignment) → find name (out-Justfile j).assignments ≡ Some a → is_chosen (out-Justfile j).settings a ≡ true → NeedsAtOnce answers recipes tops j name
  read : {name : Text} (place : ℕ) (r : Recipe Dependency) → RunsInModule recipes tops j place r → IsReadBy answers j r name → NeedsAtOnce answers recipes tops j name

-- and whatever these read, unless the analysis saw them as overridden, and so on
abbrev pub IsNeededVariable : SyntaxAnswers → List (Recipe Dependency) → List Task → Justfile → Text → Type 0
IsNeededVariable answers recipes tops j = NeedsIn j (NeedsAtOnce answers recipes tops j)

-- for each module a set of numbers
abbrev pub NumberSets : Type 0
NumberSets = Justfile → Number → Bool

-- of each module that stands in the root, those of exactly the variables that are needed
abbrev pub AreNeeds : SyntaxAnswers → Justfile → List (Recipe Dependency) → List Task → NumberSets → Type 0
AreNeeds answers root recipes tops sets = (j : Justfile) → StandsIn root j → (n : Number) → (sets j n ≡ true) ↔ IsNumberIn (known_by_tables j) (IsNeededVariable answers recipes tops j) n

-- what the evaluator is asked for of a module: of a lazy one its set, and else all
abbrev pub asked : NumberSets → Bool → Justfile → NumberSet
asked sets lazy j = cond lazy (Some (sets j)) None

-- what is bound then: in a lazy module what is needed, and else all that it has
abbrev pub IsToBeBound : Bool → SyntaxAnswers → List (Recipe Dependency) → List Task → Justfile → Text → Type 0
IsToBeBound true answers recipes tops j name = IsNeededVariable answers recipes tops j name
IsToBeBound false answers recipes tops j name = IsSome (find name (out-Justfile j).assignments)

-- where a search of a module begins: at what is evaluated anyhow, and at what is used
abbrev pub is_start : (Number → Bool) → Settings → Assignment → Bool
is_start used settings a = used a.number || is_chosen settings a

pub record IsNeededAtOnce (used : Number → Bool) (j : Justfile) (name : Text) : Type 0 where
  pub assigned : Assignment
  pub is : find name (out-Justfile j).assignments ≡ Some assigned
  pub starts : is_start used (out-Justfile j).settings assigned ≡ true

-- What is needed of a module from some numbers: the variables that are evaluated anyhow and those of the numbers, and whatever these read, unless the analysis saw them as overridden, and so on.
abbrev pub IsNeededFrom : (Number → Bool) → Justfile → Text → Type 0
IsNeededFrom used j = NeedsIn j (IsNeededAtOnce used j)

-- a set has the numbers of exactly that
abbrev pub IsFound : (Number → Bool) → Justfile → (Number → Bool) → Type 0
IsFound used j set = (n : Number) → (set n ≡ true) ↔ IsNumberIn (known_by_tables j) (IsNeededFrom used j) n

-- of each module that stands in the root, those of exactly the variables that are needed from some numbers
abbrev pub AreNeedsFrom : (Number → Bool) → Justfile → NumberSets → Type 0
AreNeedsFrom used root sets = (j : Justfile) → StandsIn root j → IsFound used j (sets j)
