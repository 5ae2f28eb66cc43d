-- Where recipes run: the modules of a run, and what is bound in them.
use Rattle.std.proofs.Common.{BuildHasherDefault, FoldHasher}
use Rattle.std.specs.Prelude.{◌≡◌, ℕ, List, Option, None, Some}
use Rattle.std.specs.HashMap.{HashMap, get}
use Rattle.std.specs.List.{All, slice_get}
use Rattle.just_ast_expressions.specs.declared.scope.Scope.{Scope}
use Rattle.just_parts.specs.Known.{Known}
use Rattle.just_parts.specs.Scopes.{Scoped, scopes_of}
use Rattle.just_parts.specs.Syntax.{SyntaxAnswers}
use Rattle.just_paths.specs.contracts.modulepath.ModulepathPartialEq.TheImpl as path_eq
use Rattle.just_paths.specs.declared.modulepath.Modulepath.{Modulepath}
use Rattle.just_recipe.specs.Recipes.{arguments_of}
use Rattle.just_recipe.specs.declared.dependency.Dependency.{Dependency}
use Rattle.just_recipe.specs.declared.recipe.Recipe.{Recipe}
use Rattle.just_run_layers.specs.Covering.{BindsRead, module_of}
use Rattle.just_tasks.specs.declared.scopes.ModuleScope.{ModuleScope}
use Rattle.just_tasks.specs.declared.task.Task.{Task}
use Rattle.just_tasks.specs.Leading.{LeadTo}

-- the modules of a run, by their paths
abbrev pub Modules : Type 0
Modules = HashMap Modulepath ModuleScope (BuildHasherDefault FoldHasher)

abbrev pub module_scope_at : Modules → Option Modulepath → Option ModuleScope
module_scope_at modules None = None
module_scope_at modules (Some path) = get path_eq.ghosts.eq modules path

-- what an expression in its scope reads is bound among some values
abbrev pub IsRead : Known → Scope → Scoped → Type 0
IsRead known scope s = BindsRead known s.hidden scope s.expression

-- whatever a recipe of a module reads is bound in a scope
abbrev pub IsBound : SyntaxAnswers → ModuleScope → Recipe Dependency → Scope → Type 0
IsBound answers m r scope = All (IsRead (module_of m.context) scope) (scopes_of arguments_of answers m.context.settings.now r)

-- a module is that of a recipe: it has the recipe's path, and what the recipe reads is bound among its values
pub record IsModuleScopeOf (answers : SyntaxAnswers) (m : ModuleScope) (r : Recipe Dependency) : Type 0 where
  pub path : r.module_path ≡ Some m.context.module_path.now
  pub bound : IsBound answers m r m.scope

-- a recipe has its module's scope: its module is among those of the run, and what the recipe reads is bound there
pub record HasModuleScope (answers : SyntaxAnswers) (modules : Modules) (r : Recipe Dependency) : Type 0 where
  pub home : ModuleScope
  pub there : module_scope_at modules r.module_path ≡ Some home
  pub own : IsModuleScopeOf answers home r

-- each recipe that they lead to has it
abbrev pub AllHaveModuleScope : SyntaxAnswers → Modules → List (Recipe Dependency) → List Task → Type 0
AllHaveModuleScope answers modules recipes tops = (place : ℕ) (recipe : Recipe Dependency) → LeadTo recipes tops place → slice_get recipes place ≡ Some recipe → HasModuleScope answers modules recipe
