-- What private functions say beside `Homes.antt`.
use Rattle.std.specs.Prelude.{◌≡◌, ◌<◌, true, List, [], ◌∷◌, length, Some, IsSome}
use Rattle.std.specs.List.{slice_get}
use Rattle.just_names.specs.Texts.{Text}
use Rattle.just_parts.specs.Evaluator.{scope_values}
use Rattle.just_parts.specs.Scopes.{is_parameter}
use Rattle.just_parts.specs.Syntax.{SyntaxAnswers}
use Rattle.just_recipe.specs.declared.dependency.Dependency.{Dependency}
use Rattle.just_recipe.specs.declared.recipe.Recipe.{Recipe}
use Rattle.just_run_layers.specs.declared.held.Held.{Held}
use Rattle.just_tasks.specs.declared.scopes.ModuleScope.{ModuleScope}
use Rattle.just_tasks.specs.declared.task.Task.{Task}
use Rattle.just_tasks.specs.Homes.{AllHaveModuleScope, IsBound, Modules, module_scope_at}

-- for the private functions: a task that can be called: its recipe is there, and what it leads to has its module's scope
pub record IsCallable (answers : SyntaxAnswers) (modules : Modules) (recipes : List (Recipe Dependency)) (t : Task) : Type 0 where
  pub place : t.pair.recipe < length recipes
  pub home : AllHaveModuleScope answers modules recipes (t ∷ [])

-- what is held serves a recipe in a module: what the recipe reads is bound in it, and each of the recipe's parameters has a value
pub record ServesIn (answers : SyntaxAnswers) (m : ModuleScope) (r : Recipe Dependency) (h : Held) : Type 0 where
  pub bound : IsBound answers m r h.scope
  pub named : (name : Text) → is_parameter r.parameters name ≡ true → IsSome (scope_values h.scope name)

-- it serves a task: in the module of the task's recipe
abbrev pub IsServed : SyntaxAnswers → Modules → List (Recipe Dependency) → Task → Held → Type 0
IsServed answers modules recipes t h =
    (m : ModuleScope) (recipe : Recipe Dependency) → slice_get recipes t.pair.recipe ≡ Some recipe → module_scope_at modules recipe.module_path ≡ Some m → ServesIn answers m recipe h
