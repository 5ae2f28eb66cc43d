-- Which recipes a run leads to.
use Rattle.std.specs.Prelude.{ℕ, List, [], map}
use Rattle.std.specs.List.{Contains}
use Rattle.just_graph.specs.Steps.{Reached}
use Rattle.just_recipe.specs.declared.dependency.Dependency.{Dependency}
use Rattle.just_recipe.specs.declared.recipe.Recipe.{Recipe}
use Rattle.just_tasks.specs.declared.task.Task.{Task}
use Rattle.just_tasks.specs.Pairs.{needed}
use Rattle.just_recipes.specs.Places.{place_of}

-- the places of what the recipe at a place depends on
abbrev pub needed_places : List (Recipe Dependency) → ℕ → List ℕ
needed_places recipes place = map (λ (d : Dependency). place_of recipes d.recipe.0) (needed recipes place)

-- what stands at place a depends on what stands at place b
abbrev pub DependsOnPlace : List (Recipe Dependency) → ℕ → ℕ → Type 0
DependsOnPlace recipes a b = Contains (needed_places recipes a) b

-- the places of tasks
abbrev pub places : List Task → List ℕ
places ts = map (λ (t : Task). t.pair.recipe) ts

-- tasks lead to a place: it is that of one of them, or what stands there is depended on by what they lead to
abbrev pub LeadTo : List (Recipe Dependency) → List Task → ℕ → Type 0
LeadTo recipes tops place = Reached (DependsOnPlace recipes) (places tops) [] place
