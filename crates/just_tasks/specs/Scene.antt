-- What a run stands in, as a value.
use Rattle.std.specs.Prelude.{◌≡◌, Bool, true, false, List, [], map, Option, Some, None}
use Rattle.std.specs.List.{All}
use Rattle.just_ast_expressions.specs.declared.scope.Scope.{Scope}
use Rattle.just_parts.specs.Syntax.{SyntaxAnswers}
use Rattle.just_paths.specs.declared.modulepath.Modulepath.{Modulepath}
use Rattle.just_recipe.specs.declared.dependency.Dependency.{Dependency}
use Rattle.just_recipe.specs.declared.recipe.Recipe.{Recipe}
use Rattle.just_run_layers.specs.Evaluation as evaluation
use Rattle.just_run_layers.specs.Evaluation.{ContextContents}
use Rattle.just_tasks.specs.Homes.{Modules, module_scope_at}
use Rattle.just_tasks.specs.declared.scopes.ModuleScope.{ModuleScope}
use Rattle.just_tasks.specs.declared.scopes.Scopes.{Scopes}

-- what recipes run by in a module: what it hands to the layers, and the values of its variables
pub record ModuleContents : Type 0 where
  pub context : ContextContents
  pub scope : Scope

-- the grammar of a run, its recipes, and its modules, each by its path
pub record Scene : Type 0 where
  pub syntax : SyntaxAnswers
  pub recipes : List (Recipe Dependency)
  pub modules : Option Modulepath → Option ModuleContents

-- two scenes have the same grammar, the same recipes, and the same in the module of each recipe
pub record AreAlike (first second : Scene) : Type 0 where
  pub syntax : first.syntax ≡ second.syntax
  pub recipes : first.recipes ≡ second.recipes
  pub modules : All (λ (r : Recipe Dependency). first.modules r.module_path ≡ second.modules r.module_path) first.recipes

-- a recipe without what it depends on
abbrev pub lone : Recipe Dependency → Recipe Dependency
lone r = record {
  attributes = r.attributes;
  body = r.body;
  dependencies = [];
  doc = r.doc;
  file_depth = r.file_depth;
  import_offsets = r.import_offsets;
  name = r.name;
  number = r.number;
  parameters = r.parameters;
  priors = 0;
  private = r.private;
  quiet = r.quiet;
  shebang = r.shebang;
  module_path = r.module_path;
  recipe_path = r.recipe_path;
  variable_references = r.variable_references;
}

-- recipes as they run: where no dependencies run, each without what it depends on
abbrev pub running : Bool → List (Recipe Dependency) → List (Recipe Dependency)
running true recipes = map lone recipes
running false recipes = recipes

-- for the private functions: the scene of a grammar and of recipes in the modules of a run
abbrev pub scope_contents_of : ModuleScope → ModuleContents
scope_contents_of m = record { context = evaluation.context_contents_of m.context; scope = m.scope }

abbrev pub contents_found : Option ModuleScope → Option ModuleContents
contents_found None = None
contents_found (Some m) = Some (scope_contents_of m)

abbrev pub scene_with : SyntaxAnswers → Modules → List (Recipe Dependency) → Scene
scene_with syntax modules recipes = record { syntax = syntax; recipes = recipes; modules = λ path. contents_found (module_scope_at modules path) }

abbrev pub scene_in : {S : Type 0} → SyntaxAnswers → Scopes S → List (Recipe Dependency) → Scene
scene_in syntax scopes recipes = scene_with syntax scopes.modules (running scopes.no_dependencies recipes)
