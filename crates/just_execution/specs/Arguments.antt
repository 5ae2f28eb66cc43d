-- What the arguments of dependencies are asked for, and the tasks that their texts give.
use Rattle.std.specs.Prelude.{ℕ, Bool, true, cond, List, [], ◌∷◌, ◌++◌, map, codes, get_or, set, Option, None, Some}
use Rattle.std.specs.List.{position}
use Rattle.just_ast_expressions.specs.declared.expression.Expression.{Expression}
use Rattle.just_errors.specs.declared.halt.Halt.TheVariants.{Memory}
use Rattle.just_errors.specs.Halts.{unevaluated}
use Rattle.just_names.specs.Texts.{Text, joined}
use Rattle.just_recipe.specs.Starred.{has_star}
use Rattle.just_recipe.specs.declared.dependency.Dependency.{Dependency}
use Rattle.just_recipe.specs.declared.dependency.DependencyArgument.{DependencyArgument}
use Rattle.just_recipe.specs.declared.recipe.Recipe.{Recipe}
use Rattle.just_run_layers.specs.Evaluation.{Surroundings, Value}
use Rattle.just_run_layers.specs.Host.{Answer, Valued, Refused}
use Rattle.just_run_layers.specs.Interactions.{Interaction, Return, Fail, Ask, ToEvaluator, and_then}
use Rattle.just_tasks.specs.Pairs.{task}
use Rattle.just_tasks.specs.declared.task.Task.{Task}
use Rattle.just_recipes.specs.Places.{place_of}

-- steps for each of some things in turn, and all that they come to in one list
abbrev pub gathered : {A B : Type 0} → (A → Interaction (List B)) → List A → Interaction (List B)
gathered step [] = Return []
gathered step (x ∷ xs) = and_then (step x) (λ ys. and_then (gathered step xs) (λ more. Return (ys ++ more)))

-- the value of an expression
abbrev pub valued_answered : Answer → Interaction (List Text)
valued_answered (Valued value) = Return value
valued_answered (Refused message) = Fail (unevaluated message)
valued_answered _ = Fail Memory

abbrev pub value_steps : Surroundings → Expression → Interaction (List Text)
value_steps s e = Ask (ToEvaluator (Value s e)) valued_answered

-- the texts of a value that is an argument: all of them where values are lists, and else one, with a blank between them
abbrev pub texts_given : Bool → List Text → List Text
texts_given lists value = cond lists value (joined (codes " ") value ∷ [])

abbrev pub argument_steps : Surroundings → DependencyArgument → Interaction (List Text)
argument_steps s a = and_then (value_steps s a.expression) (λ value. Return (texts_given s.context.settings.lists value))

-- the texts of a group: those of its arguments, one after another
abbrev pub argument_texts_steps : Surroundings → List DependencyArgument → Interaction (List Text)
argument_texts_steps s arguments = gathered (argument_steps s) arguments

abbrev pub argument_group_steps : Surroundings → List DependencyArgument → Interaction (List (List Text))
argument_group_steps s arguments = and_then (argument_texts_steps s arguments) (λ texts. Return (texts ∷ []))

-- the groups of a dependency, one for each parameter
abbrev pub argument_groups_steps : Surroundings → List (List DependencyArgument) → Interaction (List (List Text))
argument_groups_steps s given = gathered (argument_group_steps s) given

-- groups with one text alone at a place
abbrev pub with_text : List (List Text) → ℕ → Text → List (List Text)
with_text groups place text = set groups place (text ∷ [])

-- groups as they are; or, where the group at a place is starred, once for each of its texts, with that text alone there
abbrev pub spread : Option ℕ → List (List Text) → List (List (List Text))
spread None groups = groups ∷ []
spread (Some place) groups = map (with_text groups place) (get_or groups place [])

-- the task of the recipe at a place with groups, as a dependency
abbrev pub task_at : ℕ → List (List Text) → Task
task_at place groups = task true (record { recipe = place; groups = groups })

-- the tasks of a dependency: one, or one for each text of its first group with a star
abbrev pub tasks_with : List (Recipe Dependency) → Dependency → List (List Text) → List Task
tasks_with recipes d groups = map (task_at (place_of recipes d.recipe.0)) (spread (position has_star d.arguments) groups)

abbrev pub dependency_steps : List (Recipe Dependency) → Surroundings → Dependency → Interaction (List Task)
dependency_steps recipes s d = and_then (argument_groups_steps s d.arguments) (λ groups. Return (tasks_with recipes d groups))

-- the tasks of dependencies, one after another
abbrev pub dependencies_steps : List (Recipe Dependency) → Surroundings → List Dependency → Interaction (List Task)
dependencies_steps recipes s ds = gathered (dependency_steps recipes s) ds
