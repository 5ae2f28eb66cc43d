-- The steps by which one module is compiled.
use Rattle.std.specs.Prelude.{◌≡◌, ◌++◌, ℕ, Bool, List, map, slice_get, Option, Some}
use Rattle.just_errors.specs.Causes.{Cause, Keeps}
use Rattle.just_graph.specs.Graph.{targets}
use Rattle.just_justfile.specs.declared.justfile.Justfile.{Justfile, out-Justfile}
use Rattle.just_module_contents.specs.Constants.{constant_expressions, value_among}
use Rattle.just_module_contents.specs.Definitions.{contents_in, recipes_in}
use Rattle.just_module_headers.specs.Files.{keys_in}
use Rattle.just_module_contents.specs.Kept.{kept_recipes}
use Rattle.just_module_contents.specs.Named.{recipes_by}
use Rattle.just_module_contents.specs.Standing.{AreStanding}
use Rattle.just_justfile.specs.declared.disabled.Disabled.{Disabled}
use Rattle.just_module_recipes.specs.Completing.{Completion}
use Rattle.just_module_recipes.specs.Linked.{AddsLinked, HasDisabled}
use Rattle.just_module_recipes.specs.Links.{Around, Disables, Stands, BreaksStanding, around_recipes}
use Rattle.just_module_recipes.specs.loops.Links.{links_by, told_by}
use Rattle.just_paths.specs.declared.modulepath.Modulepath.{Modulepath}
use Rattle.just_recipe.specs.declared.dependency.Dependency.{Dependency}
use Rattle.just_recipe.specs.declared.dependency.UnresolvedDependency.{UnresolvedDependency}
use Rattle.just_recipe.specs.declared.recipe.Recipe.{Recipe}
use Rattle.just_module_headers.specs.declared.files.Files.{Files}
use Rattle.just_module_headers.specs.declared.join.Joined.{Joined}
use Rattle.just_compiled.specs.Analysis.{HasDefault, IsOf, completion_in}
use Rattle.just_compiled.specs.Labelled.{by_name, notes_in, slot, with_labels}
use Rattle.just_compiled.specs.Justfiles.{Made}
use Rattle.just_module_assembly.specs.loops.Noted.{notes_of_place}
use Rattle.just_compiled.specs.Variables.{HasVariables}
use Rattle.just_module_checks.specs.declared.checks.Checked.{Checked}
use Rattle.just_module_assembly.specs.declared.justfiles.Surroundings.{Surroundings}
use Rattle.just_names.specs.Texts.{Text}
use Rattle.just_module_contents.specs.declared.labels.Label.{Label}
use Rattle.just_parts.specs.Asts.{AstKey}
use Rattle.just_parts.specs.Items.{Ast, Item}
use Rattle.just_parts.specs.Layers.{Layers}
use Rattle.just_parts.specs.Evaluator.{Evaluator, scope_values}
use Rattle.just_parts.specs.Needs.{has_number}
use Rattle.just_parts.specs.Syntax.{SyntaxAnswers}
use Rattle.just_ast_expressions.specs.declared.expression.Expression.{Expression}
use Rattle.just_module_variables.specs.Constants.{CoversAll, evaluated_in}
use Rattle.just_module_recipes.specs.loops.Broken.{BreaksRecipes}

-- What the module at a place has besides its recipes: the list of loaded files, its own file, what is noted of its files, and the modules in it, which were held, under labels.
pub record AreSurroundings (enabled : Item → Bool) (files : Files) (joined : Joined) (loaded : List Text) (p : ℕ) (labels : List Label) (held : List (Option Justfile)) (it : Surroundings) : Type 0 where
  pub loaded_are : it.loaded ≡ loaded
  pub key : AstKey
  pub key_is : slice_get (keys_in files) p ≡ Some key
  pub source_is : it.source ≡ key.1
  pub notes_are : it.notes ≡ notes_of_place enabled files joined p
  pub modules_are : (inner : List Justfile) → map Some inner ≡ map (slot held) (targets joined.modules.items p) → it.modules ≡ by_name (with_labels inner labels)

-- what is around the recipes of a module with these surroundings
abbrev pub around_by : Surroundings → List (Recipe Dependency) → Around
around_by it held = around_recipes it.notes.absent_modules it.modules held

-- what is broken of the recipes of a module that is checked, over what is around them, and what an error may tell of them
abbrev pub BreaksChecked : Layers → Checked → Around → Cause → Type 0
BreaksChecked layers it about =
    let links = links_by (contents_in it.definitions) about in
    BreaksRecipes layers (evaluated_in it.constants) links links (contents_in it.definitions)

abbrev pub TellsChecked : Layers → Checked → Around → Cause → Type 0
TellsChecked layers it about = BreaksRecipes layers (evaluated_in it.constants) (links_by (contents_in it.definitions) about) (told_by (contents_in it.definitions) about) (contents_in it.definitions)

-- a rule of one recipe is broken by one of those that stand
abbrev pub BreaksOwn : Layers → Checked → Around → Cause → Type 0
BreaksOwn layers it = BreaksStanding layers (evaluated_in it.constants) (contents_in it.definitions)

-- the value of an expression among the constants of a module that is checked
abbrev pub checked_value : Evaluator → Checked → Expression → Option (List Text)
checked_value evaluator it = value_among evaluator (contents_in it.definitions) (evaluated_in it.constants).constants

-- whatever is evaluated of it while compiling reads what has a value
abbrev pub IsCheckedCovered : Checked → Type 0
IsCheckedCovered it = CoversAll it.variables (scope_values it.constants.scope) (constant_expressions (contents_in it.definitions))

-- what its recipes are completed to
abbrev pub completion_here : SyntaxAnswers → Evaluator → Checked → Completion
completion_here answers evaluator it = completion_in (checked_value evaluator it) answers it.variables.assignments it.variables.functions (has_number it.constants.overrides) it.constants.settings

-- The kept recipes of a module are linked over what is around them: those that stand, the table of the others, and all recipes, of which these are added, completed.
pub record AreLinkedOver (completed : Completion) (lists : Bool) (recipes : List (Recipe UnresolvedDependency)) (it : Around) (path : Modulepath) (standing : List (Recipe UnresolvedDependency)) (disabled : List (Text × Disabled)) (all : List (Recipe Dependency)) : Type 0 where
  pub stand : AreStanding (Stands recipes it) recipes standing
  pub disabled_are : HasDisabled (Disables recipes it) recipes disabled
  pub linked : AddsLinked completed lists recipes it path all

-- so are those of a module that is checked
abbrev pub AreLinkedIn : Layers → Checked → Around → Modulepath → List (Recipe UnresolvedDependency) → List (Text × Disabled) → List (Recipe Dependency) → Type 0
AreLinkedIn layers it = AreLinkedOver (completion_here layers.syntax layers.evaluator it) it.constants.settings.lists (kept_recipes (recipes_in it.definitions))

-- What a module is analyzed to that is checked, and what it adds.
pub record IsAnalyzedFrom (layers : Layers) (own : Ast) (it : Checked) (around : Surroundings) (before after : Made) (j : Justfile) : Type 0 where
  pub kept : Keeps (BreaksChecked layers it (around_by around before.recipes))
  pub standing : List (Recipe UnresolvedDependency)
  pub linked : AreLinkedIn layers it (around_by around before.recipes) own.module_path standing (out-Justfile j).disabled_recipes after.recipes
  pub overridden : after.overridden ≡ before.overridden ++ it.constants.overridden.items
  pub fields : IsOf (contents_in it.definitions) standing own around.loaded around.source j
  pub default : HasDefault standing (recipes_by layers.syntax.enabled (Some own)) j
  pub settings : (out-Justfile j).settings ≡ it.constants.settings
  pub own_overrides : (out-Justfile j).overridden ≡ it.constants.overrides
  pub assignments : (out-Justfile j).assignments ≡ it.variables.assignments
  pub functions : (out-Justfile j).functions ≡ it.variables.functions
  pub variables : HasVariables layers.syntax (contents_in it.definitions) j
  pub modules : (out-Justfile j).modules ≡ around.modules
  pub notes : notes_in j ≡ around.notes
