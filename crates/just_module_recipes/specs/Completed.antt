-- What the recipes of a module are completed to, and what an error may tell of one.
use Rattle.std.specs.Prelude.{◌≡◌, ◌⊎◌, ℕ, ◌<◌, Bool, List, [], length, Option}
use Rattle.just_ast_expressions.specs.declared.expression.Expression.{Expression}
use Rattle.just_errors.specs.Causes.{Cause, Keeps}
use Rattle.just_module_contents.specs.RecipeValues.{BreaksRecipe, IsPastLimits}
use Rattle.just_module_contents.specs.Recipes.{recipe_at}
use Rattle.just_module_recipes.specs.Completing.{Completion, StandBeside, completion}
use Rattle.just_module_contents.specs.Standing.{InStanding}
use Rattle.just_module_recipes.specs.Links.{Around, BreaksLinks, Stands}
use Rattle.just_module_recipes.specs.Rows.{keys_at}
use Rattle.just_module_recipes.specs.declared.completion.Completing.{Completing}
use Rattle.just_names.specs.Texts.{Text}
use Rattle.just_names.specs.declared.number.Number.{Number}
use Rattle.just_parts.specs.Evaluator.{Evaluator}
use Rattle.just_parts.specs.Known.{known}
use Rattle.just_parts.specs.Syntax.{SyntaxAnswers}
use Rattle.just_paths.specs.declared.modulepath.Modulepath.{Modulepath}
use Rattle.just_recipe.specs.declared.dependency.UnresolvedDependency.{UnresolvedDependency}
use Rattle.just_recipe.specs.declared.recipe.Recipe.{Recipe}
use Rattle.just_recipe_names.specs.Numbered.{numbered_by}
use Rattle.just_recipe_values.specs.Among.{CoversRecipe, value_in_module}
use Rattle.just_recipe_values.specs.Valued.{with_values}
use Rattle.std.specs.BTreeSet.{BTreeSet}

-- a recipe with these numbers as those of the variables that it needs
abbrev pub with_needed : Recipe UnresolvedDependency → List Number → Recipe UnresolvedDependency
with_needed r numbers = record r { variable_references = numbers }

-- by the answers of the layers and what recipes are completed by
module _ {S E : Type 0} (answers : SyntaxAnswers) (evaluator : Evaluator) (it : Completing S E) where
  -- the value of an expression among the constants
  abbrev pub value_here : Expression → Option (List Text)
  value_here = value_in_module evaluator it.among

  -- a recipe with the numbers of what names mean in it, and with what its doc, helps and patterns come to
  abbrev pub completed_by : Recipe UnresolvedDependency → Recipe UnresolvedDependency
  completed_by r = with_values value_here (numbered_by answers it.meanings r)

  -- so recipes are, and each has the numbers that stand beside it
  abbrev pub completion_among : List (Recipe UnresolvedDependency) → Completion
  completion_among recipes = completion completed_by (StandBeside recipes it.references.now)

  -- a rule of a recipe is broken
  abbrev pub BreaksOne : Recipe UnresolvedDependency → Cause → Type 0
  BreaksOne = BreaksRecipe value_here answers (known answers it.among.assignments.now it.among.functions.now) it.meanings.settings.now

  -- what an error may tell of it: that, or a pattern that is past what regular expressions may be
  abbrev pub TellsOne : Recipe UnresolvedDependency → Cause → Type 0
  TellsOne r c = BreaksOne r c ⊎ IsPastLimits value_here r c

  -- the recipes that nothing disables keep these rules
  abbrev pub KeepOwn : List (Recipe UnresolvedDependency) → List (BTreeSet Modulepath) → Type 0
  KeepOwn recipes sets = (i : ℕ) → i < length recipes → keys_at sets i ≡ [] → Keeps (BreaksOne (recipe_at recipes i))

-- whatever the docs, helps and patterns of recipes read has a value
abbrev pub CoversRecipes : {S E : Type 0} → Completing S E → List (Recipe UnresolvedDependency) → Type 0
CoversRecipes it recipes = (i : ℕ) → i < length recipes → CoversRecipe it.among (recipe_at recipes i)

-- What an error may tell of a module's recipes: what is broken of what they depend on; or where that is kept what is told of one that stands.
pub data TellsLinks (lists : Bool) (tells : Recipe UnresolvedDependency → Cause → Type 0) (recipes : List (Recipe UnresolvedDependency)) (it : Around) : Cause → Type 0 where
  of_links : {c : Cause} → BreaksLinks lists recipes it c → TellsLinks lists tells recipes it c
  of_own : {c : Cause} → Keeps (BreaksLinks lists recipes it) → InStanding (Stands recipes it) tells recipes c → TellsLinks lists tells recipes it c
