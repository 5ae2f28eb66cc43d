-- The constants of a module, among which expressions of its recipes are evaluated.
use Rattle.std.specs.Prelude.{List, Option}
use Rattle.std.specs.List.{Contains}
use Rattle.just_names.specs.Texts.{Text}
use Rattle.just_ast_expressions.specs.declared.expression.Expression.{Expression}
use Rattle.just_ast_references.specs.Numbers.{bare}
use Rattle.just_errors.specs.Causes.{Cause}
use Rattle.just_module_contents.specs.Constants.{recipe_expressions}
use Rattle.just_module_contents.specs.RecipeValues.{IsPastLimits, Unvalued}
use Rattle.just_parts.specs.Evaluator.{Covers, Evaluator, functions_by_name, scope_values}
use Rattle.just_parts.specs.Known.{sources}
use Rattle.just_recipe.specs.declared.dependency.UnresolvedDependency.{UnresolvedDependency}
use Rattle.just_recipe.specs.declared.recipe.Recipe.{Recipe}
use Rattle.just_recipe_values.specs.declared.among.Among.{Among}
use Rattle.std.specs.Prelude.{◌⊎◌}

-- the value of an expression
abbrev pub value_in_module : {E : Type 0} → Evaluator → Among E → Expression → Option (List Text)
value_in_module evaluator it e = evaluator.value (functions_by_name it.functions.now) (scope_values it.constants.now) (bare e)

-- whatever the docs, helps and patterns of a recipe read has a value
abbrev pub CoversRecipe : {E : Type 0} → Among E → Recipe UnresolvedDependency → Type 0
CoversRecipe it r = (e : Expression) → Contains (recipe_expressions r) e → Covers (sources it.assignments.now it.functions.now) (scope_values it.constants.now) e

-- what an error may tell of them: one has no value, or a pattern is refused
abbrev pub TellsOf : (Expression → Option (List Text)) → Recipe UnresolvedDependency → Cause → Type 0
TellsOf value r c = Unvalued value r c ⊎ IsPastLimits value r c
