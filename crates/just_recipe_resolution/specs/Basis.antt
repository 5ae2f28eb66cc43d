-- What recipes of a module are resolved on, and the rules of one recipe there.
use Rattle.std.specs.Prelude.{◌⊎◌, ℕ, ◌<◌, Bool, List, length, Option}
use Rattle.std.specs.HashMap.{get}
use Rattle.std.specs.List.{Contains}
use Rattle.std.specs.Str.{bytes_eq}
use Rattle.just_ast_definitions.specs.declared.assignment.Assignment.{Assignment}
use Rattle.just_ast_definitions.specs.declared.function_definition.FunctionDefinition.{FunctionDefinition}
use Rattle.just_ast_expressions.specs.declared.expression.Expression.{Expression}
use Rattle.just_ast_expressions.specs.declared.scope.Scope.{Scope}
use Rattle.just_ast_expressions.specs.declared.settings.Settings.{Settings}
use Rattle.just_ast_references.specs.Numbers.{bare}
use Rattle.just_errors.specs.Causes.{Cause}
use Rattle.just_module_contents.specs.Constants.{recipe_expressions}
use Rattle.just_module_contents.specs.RecipeValues.{BreaksRecipe, IsPastLimits}
use Rattle.just_module_contents.specs.Recipes.{recipe_at}
use Rattle.just_module_recipes.specs.Completing.{Completion, completion}
use Rattle.just_module_variables.specs.Resolver.{overridden}
use Rattle.just_module_variables.specs.declared.variable_resolver.VariableResolver.{VariableResolver}
use Rattle.just_names.specs.Texts.{Text}
use Rattle.just_names.specs.declared.number.Number.{Number}
use Rattle.just_parts.specs.Evaluator.{Covers, Evaluator, Values, functions_by_name, scope_values}
use Rattle.just_parts.specs.Known.{known, sources}
use Rattle.just_parts.specs.Needs.{has_number}
use Rattle.just_parts.specs.Syntax.{SyntaxAnswers}
use Rattle.just_recipe.specs.declared.dependency.UnresolvedDependency.{UnresolvedDependency}
use Rattle.just_recipe.specs.declared.recipe.Recipe.{Recipe}
use Rattle.just_recipe_names.specs.Numbered.{numbered_recipe}
use Rattle.just_recipe_needs.specs.Needed.{NeedsUnder}
use Rattle.just_recipe_resolution.specs.declared.resolution.Resolving.{Resolving}
use Rattle.just_recipe_values.specs.Valued.{with_values}

-- What recipes of a module are resolved on: the numbers of its variables, these and its functions, the values of its constants, whether the variable of a number is overridden, and its settings.
pub record Basis : Type 0 where
  pub numbers : Text → Option Number
  pub assignments : List (Text × Assignment)
  pub functions : List (Text × FunctionDefinition)
  pub constants : Values
  pub overridden : Number → Bool
  pub settings : Settings

-- as the code has it
abbrev pub basis_of : {S E : Type 0} → Resolving S E → Basis
basis_of by = record {
  numbers = get bytes_eq by.meanings.bindings.now;
  assignments = by.among.assignments.now;
  functions = by.among.functions.now;
  constants = scope_values by.among.constants.now;
  overridden = has_number by.overrides.now;
  settings = by.meanings.settings.now;
}

-- as a resolver of names and the constants of a module have it, under these settings
abbrev pub basis_by : {A : Type 0} → VariableResolver A → Scope → Settings → Basis
basis_by resolver constants settings = record {
  numbers = get bytes_eq resolver.bindings;
  assignments = resolver.known.assignments.now;
  functions = resolver.known.functions.now;
  constants = scope_values constants;
  overridden = overridden resolver;
  settings = settings;
}

-- whatever the doc, the helps and the patterns of a recipe read has a value
abbrev pub IsRecipeCovered : Basis → Recipe UnresolvedDependency → Type 0
IsRecipeCovered basis r = (e : Expression) → Contains (recipe_expressions r) e → Covers (sources basis.assignments basis.functions) basis.constants e

abbrev pub AreRecipesCovered : Basis → List (Recipe UnresolvedDependency) → Type 0
AreRecipesCovered basis rs = (i : ℕ) → i < length rs → IsRecipeCovered basis (recipe_at rs i)

module _ (answers : SyntaxAnswers) (evaluator : Evaluator) (basis : Basis) where
  -- the value of an expression among the constants
  abbrev pub value_on : Expression → Option (List Text)
  value_on e = evaluator.value (functions_by_name basis.functions) basis.constants (bare e)

  -- What recipes are completed to: their names have the numbers of what they mean, their docs, helps and patterns are what they come to, and each has the numbers of the variables that it needs.
  abbrev pub completion_on : Completion
  completion_on =
      completion (λ r. with_values value_on (numbered_recipe basis.numbers answers basis.settings r)) (NeedsUnder (sources basis.assignments basis.functions) basis.overridden answers basis.settings)

  -- a rule of one recipe is broken
  abbrev pub BreaksOn : Recipe UnresolvedDependency → Cause → Type 0
  BreaksOn = BreaksRecipe value_on answers (known answers basis.assignments basis.functions) basis.settings

  -- what an error may tell of it: that, or a pattern that is past what regular expressions may be
  abbrev pub TellsOn : Recipe UnresolvedDependency → Cause → Type 0
  TellsOn r c = BreaksOn r c ⊎ IsPastLimits value_on r c
