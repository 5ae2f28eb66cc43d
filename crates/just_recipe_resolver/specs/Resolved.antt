-- What recipes of a module are resolved to.
use Rattle.std.specs.Prelude.{◌≡◌, ℕ, Bool, List, [], ◌∷◌, Some, slice_get}
use Rattle.std.specs.Map.{values_of}
use Rattle.just_ast_definitions.specs.Parameter.{least_arguments, most_arguments}
use Rattle.just_compiled.specs.Analysis.{recipe_table}
use Rattle.just_errors.specs.Causes.{Cause}
use Rattle.just_justfile.specs.declared.disabled.Disabled.{Disabled}
use Rattle.just_justfile.specs.declared.justfile.RecipeKey.{RecipeKey}
use Rattle.just_module_contents.specs.Kept.{kept_recipes}
use Rattle.just_module_contents.specs.Resolved.{IsResolvedAt}
use Rattle.just_module_contents.specs.Standing.{AreStanding}
use Rattle.just_module_recipes.specs.Completing.{Completion}
use Rattle.just_module_recipes.specs.Given.{Misgiven}
use Rattle.just_module_recipes.specs.Linked.{AddsLinked, HasDisabled}
use Rattle.just_module_recipes.specs.Links.{Around, Disables, Stands}
use Rattle.just_names.specs.Texts.{Text}
use Rattle.just_paths.specs.declared.modulepath.Modulepath.{Modulepath}
use Rattle.just_recipe.specs.Grouping.{grouped}
use Rattle.just_recipe.specs.declared.dependency.Dependency.{Dependency}
use Rattle.just_recipe.specs.declared.dependency.UnresolvedDependency.{UnresolvedDependency}
use Rattle.just_recipe.specs.declared.recipe.Recipe.{Recipe}

-- the recipes of a table that are kept: all, where each stands under its own name
abbrev pub kept_in_table : List (Text × Recipe UnresolvedDependency) → List (Recipe UnresolvedDependency)
kept_in_table table = kept_recipes (values_of table)

-- The kept recipes of the module at a path are resolved over what is around them: a table has the keys of those that stand, another one the others with what disables them, and those that stand are among all recipes, behind those that were held.
pub record AreResolved (completed : Completion) (lists : Bool) (recipes : List (Recipe UnresolvedDependency)) (it : Around) (path : Modulepath) (keys : List (Text × RecipeKey)) (disabled : List (Text × Disabled)) (all : List (Recipe Dependency)) : Type 0 where
  pub standing : List (Recipe UnresolvedDependency)
  pub stand : AreStanding (Stands recipes it) recipes standing
  pub keys_are : keys ≡ recipe_table standing
  pub disabled_are : HasDisabled (Disables recipes it) recipes disabled
  pub linked : AddsLinked completed lists recipes it path all

-- a dependency on a recipe, with its number, and its arguments grouped for its parameters
abbrev pub link_to : Bool → UnresolvedDependency → Recipe Dependency → Dependency
link_to lists d target = record { arguments = grouped lists target.parameters d.arguments; path = d.recipe; recipe = target.number }

-- dependencies, each on the recipe beside it
abbrev pub links_to : Bool → List UnresolvedDependency → List (Recipe Dependency) → List Dependency
links_to lists [] targets = []
links_to lists (d ∷ ds) [] = []
links_to lists (d ∷ ds) (t ∷ ts) = link_to lists d t ∷ links_to lists ds ts

-- What a recipe is resolved to at a path, over the recipes that it depends on: it is completed, and each dependency leads to the recipe beside it.
pub record IsResolvedTo (completed : Completion) (lists : Bool) (path : Modulepath) (r : Recipe UnresolvedDependency) (targets : List (Recipe Dependency)) (made : Recipe Dependency) : Type 0 where
  pub resolved : IsResolvedAt path (completed.by r) made
  pub references : completed.Needs r made.variable_references
  pub dependencies : made.dependencies ≡ links_to lists (completed.by r).dependencies targets

-- A dependency gives the recipe beside it a starred argument where values are no lists, or too few or too many.
pub data GivesWrongly (lists : Bool) (ds : List UnresolvedDependency) (targets : List (Recipe Dependency)) : Cause → Type 0 where
  gives : {c : Cause} (at : ℕ) (d : UnresolvedDependency) (target : Recipe Dependency) → slice_get ds at ≡ Some d → slice_get targets at ≡ Some target
      → Misgiven lists d (least_arguments target.parameters) (most_arguments lists target.parameters) c → GivesWrongly lists ds targets c
