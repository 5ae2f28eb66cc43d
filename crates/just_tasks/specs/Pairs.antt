-- Pairs and tasks, and the dependencies of recipes: those that run before one, and those that run after it.
use Rattle.std.specs.Prelude.{ℕ, zero, suc, ◌==◌, ◌&&◌, ◌||◌, ◌<◌, Bool, false, List, [], ◌∷◌, take, drop, nat_eq}
use Rattle.std.specs.List.{All}
use Rattle.std.specs.Cmp.Lexicographic.{pointwise}
use Rattle.just_recipe.specs.declared.dependency.Dependency.{Dependency}
use Rattle.just_recipe.specs.declared.recipe.Recipe.{Recipe}
use Rattle.just_tasks.specs.declared.pair.Pair.{Pair}
use Rattle.just_tasks.specs.declared.task.Task.{Task}

-- whether two pairs have one recipe and the same texts
abbrev pub same_pair : Pair → Pair → Bool
same_pair p q = (p.recipe == q.recipe) && pointwise (pointwise (pointwise nat_eq)) p.groups q.groups

-- which pairs ran under a table
abbrev pub OnceTable : Type 0
OnceTable = Pair → Bool

-- none did
abbrev pub nothing_ran : OnceTable
nothing_ran p = false

-- one more did
abbrev pub put_in : OnceTable → Pair → OnceTable
put_in table pair p = table p || same_pair pair p

-- the pair alone is what a once table holds
abbrev pub once_key : Task → Pair
once_key t = t.pair

-- the task of a pair
abbrev pub task : Bool → Pair → Task
task dependency p = record { pair = p; dependency = dependency }

-- what f gives of the recipe at a place, and nothing past the last
abbrev pub at_place : {A : Type 0} → (Recipe Dependency → List A) → List (Recipe Dependency) → ℕ → List A
at_place f [] k = []
at_place f (r ∷ rs) zero = f r
at_place f (r ∷ rs) (suc k) = at_place f rs k

-- what the recipe at a place depends on
abbrev pub needed : List (Recipe Dependency) → ℕ → List Dependency
needed recipes place = at_place (λ r. r.dependencies) recipes place

-- the dependencies that run before the recipe at a place
abbrev pub prior_dependencies : List (Recipe Dependency) → ℕ → List Dependency
prior_dependencies recipes place = at_place (λ r. take r.priors r.dependencies) recipes place

-- the dependencies that run after the recipe at a place
abbrev pub subsequent_dependencies : List (Recipe Dependency) → ℕ → List Dependency
subsequent_dependencies recipes place = at_place (λ r. drop r.priors r.dependencies) recipes place

-- each task's recipe stands below the place
abbrev pub AllBelow : ℕ → List Task → Type 0
AllBelow bound ts = All (λ (t : Task). t.pair.recipe < bound) ts
