-- A module's recipes, functions, variables, aliases, names and settings, and where it needs lists.
use Rattle.std.specs.Prelude.{List}
use Rattle.just_module_contents.specs.declared.definitions.Definitions.{Definitions}
use Rattle.just_recipe.specs.declared.dependency.UnresolvedDependency.{UnresolvedDependency}
use Rattle.just_recipe.specs.declared.recipe.Recipe.{Recipe}
use Rattle.just_names.specs.declared.name.Namepath.{Namepath}
use Rattle.just_ast_definitions.specs.declared.alias.Alias.{Alias}
use Rattle.just_ast_definitions.specs.declared.assignment.Assignment.{Assignment}
use Rattle.just_ast_expressions.specs.declared.expression.Expression.{Expression}
use Rattle.just_ast_definitions.specs.declared.function_definition.FunctionDefinition.{FunctionDefinition}
use Rattle.just_ast_expressions.specs.declared.list_use.ListUse.{ListUse}
use Rattle.just_ast_definitions.specs.declared.setting.Set.{Set}
use Rattle.just_module_contents.specs.Contents.{Contents}
use Rattle.just_module_contents.specs.Recipes.{lent}

abbrev pub recipes_in : Definitions → List (Recipe UnresolvedDependency)
recipes_in m = lent m.recipes.items

abbrev pub functions_in : Definitions → List FunctionDefinition
functions_in m = lent m.functions.items

abbrev pub variables_in : Definitions → List Assignment
variables_in m = lent m.variables.items

abbrev pub aliases_in : Definitions → List (Alias Namepath)
aliases_in m = lent m.aliases.items

abbrev pub lists_in : Definitions → List ListUse
lists_in m = lent m.lists.items

abbrev pub sets_in : Definitions → List Set
sets_in m = lent m.sets.items

abbrev pub docs_in : Definitions → List Expression
docs_in m = lent m.docs.items

abbrev pub contents_in : Definitions → Contents
contents_in m = record {
  recipes = recipes_in m;
  functions = functions_in m;
  variables = variables_in m;
  aliases = aliases_in m;
  modules = m.modules.items;
  named = m.named.items;
  docs = docs_in m;
  unexports = m.unexports.items;
  sets = sets_in m;
  lists = lists_in m;
}
