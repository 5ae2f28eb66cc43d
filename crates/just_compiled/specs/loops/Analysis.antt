-- What private functions say beside `Analysis.antt`.
use Rattle.std.specs.Prelude.{◌++◌, List, Option}
use Rattle.just_names.specs.Texts.{Text}
use Rattle.just_parts.specs.Syntax.{SyntaxAnswers}
use Rattle.just_ast_expressions.specs.declared.expression.Expression.{Expression}
use Rattle.just_justfile.specs.declared.justfile.Justfile.{Justfile, out-Justfile}
use Rattle.just_recipe.specs.declared.dependency.UnresolvedDependency.{UnresolvedDependency}
use Rattle.just_recipe.specs.declared.recipe.Recipe.{Recipe}
use Rattle.just_paths.specs.declared.modulepath.Modulepath.{Modulepath}
use Rattle.just_module_contents.specs.Standing.{AreStanding}
use Rattle.just_module_recipes.specs.Linked.{AreLinked, HasDisabled, HasNumber}
use Rattle.just_module_recipes.specs.Links.{Disables, Stands}
use Rattle.just_module_recipes.specs.loops.Links.{around_of}
use Rattle.just_recipe.specs.declared.dependency.Dependency.{Dependency}
use Rattle.just_compiled.specs.Analysis.{completion_of}

-- What the kept recipes of a module are linked to, over the modules that its justfile has, where these recipes are held before: those that stand are completed and added, and the others are in its table of what is disabled.
pub record HasLinks (value : Expression → Option (List Text)) (answers : SyntaxAnswers) (recipes : List (Recipe UnresolvedDependency)) (before : List (Recipe Dependency)) (path : Modulepath) (added : List (Recipe Dependency)) (standing : List (Recipe UnresolvedDependency)) (j : Justfile) : Type 0 where
  pub linked : AreLinked (Stands recipes (around_of j before)) (HasNumber recipes (around_of j before)) (completion_of value answers j) (out-Justfile j).settings.lists (before ++ added) recipes path added
  pub stand : AreStanding (Stands recipes (around_of j before)) recipes standing
  pub disabled : HasDisabled (Disables recipes (around_of j before)) recipes (out-Justfile j).disabled_recipes
