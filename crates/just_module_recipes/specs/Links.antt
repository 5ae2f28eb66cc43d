-- What the dependencies of a module's recipes lead to, over the compiled modules in it, and what is broken of them.
use Rattle.std.specs.Prelude.{◌≡◌, ◌≢◌, ℕ, ◌<◌, Bool, List, [], ◌∷◌, length, Option, None, Some}
use Rattle.std.specs.BTreeSet.{BTreeSet}
use Rattle.std.specs.List.{Contains}
use Rattle.just_ast_definitions.specs.declared.alias.Alias.{Alias}
use Rattle.just_ast_definitions.specs.Parameter.{least_arguments, most_arguments}
use Rattle.just_ast_definitions.specs.declared.parameter.Parameter.{Parameter}
use Rattle.just_ast_expressions.specs.declared.expression.Expression.{Expression}
use Rattle.just_errors.specs.Causes.{Cause}
use Rattle.just_justfile.specs.Walks.{resolved_module, resolved_recipe}
use Rattle.just_justfile.specs.declared.justfile.Justfile.{Justfile}
use Rattle.just_justfile.specs.declared.resolution.Resolution.{Resolution}
use Rattle.just_justfile.specs.declared.resolution.Resolution.TheVariants as resolution
use Rattle.just_module_contents.specs.Constants.{Evaluated, value_among}
use Rattle.just_module_contents.specs.Contents.{Contents}
use Rattle.just_module_contents.specs.Defaults.{BreaksDefaults}
use Rattle.just_module_contents.specs.Kept.{kept_recipes}
use Rattle.just_module_contents.specs.Known.{known_of}
use Rattle.just_module_contents.specs.RecipeValues.{BreaksRecipe, IsPastLimits}
use Rattle.just_module_contents.specs.Recipes.{DependsOnRecipe, name_of_recipe, recipe_at}
use Rattle.just_module_contents.specs.Rules.{BreaksAliasTargets, Dependencies, DependsBy}
use Rattle.just_module_contents.specs.Standing.{AreStanding, InStanding}
use Rattle.just_names.specs.Name.{texts_of_path}
use Rattle.just_names.specs.Texts.{Text}
use Rattle.just_names.specs.declared.name.Namepath.{Namepath}
use Rattle.just_names.specs.declared.number.Number.{Number}
use Rattle.just_parts.specs.Layers.{Layers}
use Rattle.just_paths.specs.declared.modulepath.Modulepath.{Modulepath}
use Rattle.just_recipe.specs.Recipes.{find_number}
use Rattle.just_recipe.specs.declared.dependency.Dependency.{Dependency}
use Rattle.just_recipe.specs.declared.dependency.UnresolvedDependency.{UnresolvedDependency}
use Rattle.just_recipe.specs.declared.recipe.Recipe.{Recipe}

-- What the paths of a module lead through beside its own recipes: its optional modules without a file, by their names, and the modules in it, as they are compiled; and the recipes that are resolved so far.
pub record Around : Type 0 where
  pub absent : List (Text × Text)
  pub modules : List Justfile
  pub held : List (Recipe Dependency)

abbrev pub around_recipes : List (Text × Text) → List Justfile → List (Recipe Dependency) → Around
around_recipes absent modules held = record { absent = absent; modules = modules; held = held }

-- what a path leads to through the modules; nothing where it has one name
abbrev pub found_by : Around → Namepath → Option (Resolution Number)
found_by it path = resolved_recipe it.absent [] it.modules [] path

-- the path is the name of the recipe at a place
pub record IsNameOf (recipes : List (Recipe UnresolvedDependency)) (path : Namepath) (j : ℕ) : Type 0 where
  pub there : j < length recipes
  pub named : texts_of_path path ≡ name_of_recipe (recipe_at recipes j) ∷ []

-- A path leads to a recipe of the module, or through the modules.
pub data PathLeadsTo (recipes : List (Recipe UnresolvedDependency)) (it : Around) (path : Namepath) : Type 0 where
  near : (j : ℕ) → IsNameOf recipes path j → PathLeadsTo recipes it path
  far : found_by it path ≢ None → PathLeadsTo recipes it path

-- A recipe, by its name, is disabled by the module without a file at a path: it depends on what that disables in another module, or on a recipe of its own module that is disabled by it. It is the least such relation.
pub data Disables (recipes : List (Recipe UnresolvedDependency)) (it : Around) : Text → Modulepath → Type 0 where
  by_walk : {name : Text} {path : Modulepath} (d : Namepath) (set : BTreeSet Modulepath) → DependsBy recipes name d → found_by it d ≡ Some (resolution.Disabled set) → Contains set.keys path → Disables recipes it name path
  by_recipe : {name : Text} {path : Modulepath} (other : Text) → DependsOnRecipe recipes name other → Disables recipes it other path → Disables recipes it name path

-- nothing disables it
abbrev pub Stands : List (Recipe UnresolvedDependency) → Around → Text → Type 0
Stands recipes it name = (path : Modulepath) → Disables recipes it name path → ⊥

-- the parameters of the recipe that a path leads to
pub data HasParameters (recipes : List (Recipe UnresolvedDependency)) (it : Around) (path : Namepath) (parameters : List Parameter) : Type 0 where
  of_near : (j : ℕ) → IsNameOf recipes path j → (recipe_at recipes j).parameters ≡ parameters → HasParameters recipes it path parameters
  of_far : (n : Number) (r : Recipe Dependency) → found_by it path ≡ Some (resolution.Resolved n) → find_number it.held n.0 ≡ Some r → r.parameters ≡ parameters → HasParameters recipes it path parameters

-- the recipe that a path leads to takes so many arguments at least and at most
pub record Takes (lists : Bool) (recipes : List (Recipe UnresolvedDependency)) (it : Around) (path : Namepath) (least most : ℕ) : Type 0 where
  pub parameters : List Parameter
  pub has : HasParameters recipes it path parameters
  pub least_is : least_arguments parameters ≡ least
  pub most_is : most_arguments lists parameters ≡ most

-- what is broken of the dependencies of a module's recipes
abbrev pub BreaksLinks : Bool → List (Recipe UnresolvedDependency) → Around → Cause → Type 0
BreaksLinks lists recipes it = Dependencies (PathLeadsTo recipes it) (Stands recipes it) (Takes lists recipes it) lists recipes

-- the value of an expression among the constants of a module
abbrev pub value_by_layers : Layers → Evaluated → Contents → Expression → Option (List Text)
value_by_layers layers evaluated m = value_among layers.evaluator m evaluated.constants

-- a rule of one recipe is broken by one of a module's kept recipes that stands
abbrev pub BreaksStanding : Layers → Evaluated → Contents → Around → Cause → Type 0
BreaksStanding layers evaluated m it =
    InStanding (Stands (kept_recipes m.recipes) it) (BreaksRecipe (value_by_layers layers evaluated m) layers.syntax (known_of layers.syntax m) evaluated.settings) (kept_recipes m.recipes)

-- a pattern of one of these is past the size or the nesting that regular expressions may have
abbrev pub IsPastLimitsBy : Layers → Evaluated → Contents → Around → Cause → Type 0
IsPastLimitsBy layers evaluated m it = InStanding (Stands (kept_recipes m.recipes) it) (IsPastLimits (value_by_layers layers evaluated m)) (kept_recipes m.recipes)

-- The target of an alias leads to a module, or to a recipe.
pub data HasTarget (recipes : List (Recipe UnresolvedDependency)) (it : Around) (path : Namepath) : Type 0 where
  to_module : resolved_module it.absent it.modules path ≢ None → HasTarget recipes it path
  to_recipe : PathLeadsTo recipes it path → HasTarget recipes it path

-- The target of an alias leads to nothing, or of the recipes that stand two have the attribute `default`.
pub data BreaksAliases (recipes : List (Recipe UnresolvedDependency)) (aliases : List (Alias Namepath)) (it : Around) : Cause → Type 0 where
  of_targets : {c : Cause} → BreaksAliasTargets (HasTarget recipes it) aliases c → BreaksAliases recipes aliases it c
  of_defaults : {c : Cause} (standing : List (Recipe UnresolvedDependency)) → AreStanding (Stands recipes it) recipes standing → BreaksDefaults standing c → BreaksAliases recipes aliases it c
