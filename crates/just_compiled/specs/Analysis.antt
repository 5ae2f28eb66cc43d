-- What a module's recipes are compiled to.
use Rattle.std.specs.Prelude.{◌≡◌, Bool, List, [], map, false, Option, None}
use Rattle.just_names.specs.Name.{text_of_name}
use Rattle.just_names.specs.Texts.{Text}
use Rattle.just_names.specs.declared.number.Number.{Number}
use Rattle.just_table.specs.Entries.{put_all}
use Rattle.just_parts.specs.Items.{Ast}
use Rattle.just_parts.specs.Known.{sources}
use Rattle.just_parts.specs.Needs.{has_number}
use Rattle.just_parts.specs.Syntax.{SyntaxAnswers}
use Rattle.just_ast_definitions.specs.declared.assignment.Assignment.{Assignment}
use Rattle.just_ast_definitions.specs.declared.function_definition.FunctionDefinition.{FunctionDefinition}
use Rattle.just_ast_expressions.specs.declared.expression.Expression.{Expression}
use Rattle.just_ast_expressions.specs.declared.settings.Settings.{Settings}
use Rattle.just_module_variables.specs.Variables.{variable_number}
use Rattle.just_recipe_names.specs.Numbered.{numbered_recipe}
use Rattle.just_recipe_needs.specs.Needed.{NeedsUnder}
use Rattle.just_recipe_values.specs.Valued.{with_values}
use Rattle.just_justfile.specs.declared.justfile.Justfile.{Justfile, out-Justfile}
use Rattle.just_recipe.specs.declared.dependency.UnresolvedDependency.{UnresolvedDependency}
use Rattle.just_recipe.specs.declared.recipe.Recipe.{Recipe}
use Rattle.just_justfile.specs.declared.justfile.RecipeKey.{RecipeKey}
use Rattle.just_compiled.specs.Labelled.{label_in}
use Rattle.just_module_contents.specs.Contents.{Contents}
use Rattle.just_module_recipes.specs.Completing.{Completion, completion}
use Rattle.just_module_aliases.specs.Aliased.{aliases_of, targets_of}
use Rattle.just_module_contents.specs.Defaults.{IsDefaultAmong}

-- the key of a recipe: its name and its number
abbrev pub recipe_key_of : Recipe UnresolvedDependency → RecipeKey
recipe_key_of r = record { name = r.name; number = r.number }

abbrev pub name_of_key : RecipeKey → Text
name_of_key key = text_of_name key.name

-- the table of recipes: the key of each under its name, one after another
abbrev pub recipe_table : List (Recipe UnresolvedDependency) → List (Text × RecipeKey)
recipe_table recipes = put_all name_of_key [] (map recipe_key_of recipes)

-- a module's default, of its recipes that stand
abbrev pub HasDefault : List (Recipe UnresolvedDependency) → List (Recipe UnresolvedDependency) → Justfile → Type 0
HasDefault standing own j = IsDefaultAmong standing own (out-Justfile j).default

-- What recipes are completed to in a module with these variables, functions and settings, of whose variables some are overridden: their names have the numbers of what they mean, their docs, helps and patterns are what they come to, and each has the numbers of the variables that it needs.
abbrev pub completion_in : (Expression → Option (List Text)) → SyntaxAnswers → List (Text × Assignment) → List (Text × FunctionDefinition) → (Number → Bool) → Settings → Completion
completion_in value answers assignments functions overridden settings =
    completion (λ r. with_values value (numbered_recipe (variable_number assignments) answers settings r)) (NeedsUnder (sources assignments functions) overridden answers settings)

-- in a module that is compiled
abbrev pub completion_of : (Expression → Option (List Text)) → SyntaxAnswers → Justfile → Completion
completion_of value answers j = completion_in value answers (out-Justfile j).assignments (out-Justfile j).functions (has_number (out-Justfile j).overridden) (out-Justfile j).settings

-- a justfile has no label
abbrev pub HasNoLabel : Justfile → Type 0
HasNoLabel j = label_in j ≡ record { name = None; doc = None; doc_expression = None; groups = []; private = false }

-- A module has the table of its recipes that stand, its aliases, by what it has, the names that it unexports, the paths that it was given, and what its own file says.
pub record IsOf (m : Contents) (standing : List (Recipe UnresolvedDependency)) (ast : Ast) (loaded : List Text) (source : Text) (justfile : Justfile) : Type 0 where
  pub recipes_are : (out-Justfile justfile).recipes ≡ recipe_table standing
  pub aliases_are : (out-Justfile justfile).aliases ≡ aliases_of (targets_of justfile) m.aliases
  pub unexports_are : (out-Justfile justfile).unexports ≡ m.unexports
  pub loaded_is : (out-Justfile justfile).loaded ≡ loaded
  pub source_is : (out-Justfile justfile).source ≡ source
  pub module_path : (out-Justfile justfile).module_path ≡ ast.module_path
  pub working_directory : (out-Justfile justfile).working_directory ≡ ast.working_directory
