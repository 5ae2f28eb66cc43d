-- The rules of recipes that a shell runs.
use Rattle.std.specs.Prelude.{◌≡◌, ℕ, ◌<◌, Bool, true, false, List, length, Some}
use Rattle.std.specs.List.{Contains, slice_get}
use Rattle.just_errors.specs.Causes.{Cause, Broken}
use Rattle.just_errors.specs.declared.compile_error.CompileErrorKind.TheVariants as kind
use Rattle.just_names.specs.Name.{text_of_name}
use Rattle.just_names.specs.Token.{Place, lexeme}
use Rattle.just_ast_definitions.specs.declared.attribute.Attribute.{Attribute}
use Rattle.just_ast_definitions.specs.declared.attribute.Attribute.TheVariants as attribute
use Rattle.just_ast_definitions.specs.declared.attribute.NamedAttribute.{NamedAttribute}
use Rattle.just_ast_expressions.specs.declared.expression.Expression.{Expression}
use Rattle.just_ast_definitions.specs.declared.line.Line.{Line}
use Rattle.just_ast_expressions.specs.declared.settings.Settings.{Settings}
use Rattle.just_ast_expressions.specs.declared.sigil.Sigil.TheVariants as sigil
use Rattle.just_parts.specs.Groups.{BeginsGroup, front, is_indented}
use Rattle.just_recipe.specs.Script.{is_script}
use Rattle.just_parts.specs.Syntax.{SyntaxAnswers}
use Rattle.just_recipe.specs.declared.dependency.UnresolvedDependency.{UnresolvedDependency}
use Rattle.just_recipe.specs.declared.recipe.Recipe.{Recipe}
use Rattle.just_module_contents.specs.Recipes.{name_of_recipe, recipe_at}

-- What is broken at a line that begins a group: it has the sigils `?` and `-`, or it is indented further than its body. It is told at the text that it begins with.
pub data BreaksFirstLine (answers : SyntaxAnswers) (settings : Settings) (line : Line) : Cause → Type 0 where
  guard_and_infallible : {token : Place} → front line.fragments ≡ Some token → Contains (answers.sigils line settings) sigil.Guard → Contains (answers.sigils line settings) sigil.Infallible
      → BreaksFirstLine answers settings line (Broken token kind.GuardAndInfallibleSigil)
  extra_whitespace : {token : Place} → front line.fragments ≡ Some token → is_indented (lexeme token) ≡ true → BreaksFirstLine answers settings line (Broken token kind.ExtraLeadingWhitespace)

-- What is broken in the lines of a body: something at one that begins a group.
pub data BreaksLines (answers : SyntaxAnswers) (settings : Settings) (body : List Line) : Cause → Type 0 where
  of_line : {line : Line} {c : Cause} (i : ℕ) → BeginsGroup answers settings body i → slice_get body i ≡ Some line → BreaksFirstLine answers settings line c → BreaksLines answers settings body c

-- only a script may have it
abbrev pub is_of_scripts : {E : Type 0} → Attribute E → Bool
is_of_scripts (attribute.Cache cache) = true
is_of_scripts (attribute.Extension extension) = true
is_of_scripts _ = false

-- A recipe has an attribute that only a script may have. It is told at the recipe's name.
pub data ScriptAttribute (recipe : Recipe UnresolvedDependency) : Cause → Type 0 where
  invalid_attribute : {named : NamedAttribute Expression} (i : ℕ) → slice_get recipe.attributes i ≡ Some named → is_of_scripts named.attribute ≡ true
      → ScriptAttribute recipe (Broken recipe.name.token (kind.InvalidShellRecipeAttribute (name_of_recipe recipe) (text_of_name named.name)))

-- What is broken in a recipe that is no script: something in its lines, or in its attributes.
pub data BreaksShellRecipe (answers : SyntaxAnswers) (settings : Settings) (recipe : Recipe UnresolvedDependency) : Cause → Type 0 where
  of_lines : {c : Cause} → is_script recipe settings ≡ false → BreaksLines answers settings recipe.body c → BreaksShellRecipe answers settings recipe c
  of_attributes : {c : Cause} → is_script recipe settings ≡ false → ScriptAttribute recipe c → BreaksShellRecipe answers settings recipe c

-- What is broken in the recipes of a module that are no scripts.
pub data BreaksShells (answers : SyntaxAnswers) (settings : Settings) (recipes : List (Recipe UnresolvedDependency)) : Cause → Type 0 where
  of_recipe : {c : Cause} (i : ℕ) → i < length recipes → BreaksShellRecipe answers settings (recipe_at recipes i) c → BreaksShells answers settings recipes c
