-- Where paths lead in a tree of modules, which recipes stand in it, and what is broken of what they depend on.
use Rattle.std.specs.Prelude.{◌≡◌, ◌≢◌, ◌⊎◌, ℕ, ◌<◌, Bool, false, List, [], ◌∷◌, map, flat_map, length, Option, None, Some, if◌then◌else◌}
use Rattle.std.specs.List.{Contains, list_any}
use Rattle.std.specs.Str.{bytes_eq}
use Rattle.just_ast_expressions.specs.declared.expression.Expression.{Expression}
use Rattle.just_errors.specs.Causes.{Cause}
use Rattle.just_module_contents.specs.Defaults.{BreaksDefaults}
use Rattle.just_module_contents.specs.Constants.{Evaluated, value_among}
use Rattle.just_module_contents.specs.Groups.{Links, OfAliases, OfDependencies, OfRecipes}
use Rattle.just_module_contents.specs.Kept.{kept_recipes}
use Rattle.just_module_contents.specs.Known.{known_of}
use Rattle.just_module_contents.specs.Notes.{absent_by}
use Rattle.just_module_contents.specs.RecipeValues.{BreaksRecipe, IsPastLimits}
use Rattle.just_module_contents.specs.Recipes.{least_of, most_of, name_of_recipe, names_of, recipe_at}
use Rattle.just_module_contents.specs.Rules.{BreaksAliasTargets, Dependencies, DependsBy}
use Rattle.just_module_contents.specs.Standing.{AreStanding, InStanding}
use Rattle.just_module_tree.specs.Modules.{Empty, Forest, Module, Tree, contents_of, items_of}
use Rattle.just_names.specs.Name.{text_if_named, text_of_name, texts_of_path}
use Rattle.just_names.specs.Texts.{Text}
use Rattle.just_names.specs.declared.name.Namepath.{Namepath}
use Rattle.just_parts.specs.Layers.{Layers}
use Rattle.just_paths.specs.declared.modulepath.Modulepath.{Modulepath}
use Rattle.just_recipe.specs.declared.dependency.UnresolvedDependency.{UnresolvedDependency}
use Rattle.just_recipe.specs.declared.recipe.Recipe.{Recipe}

-- the name of a module, its recipes that are kept, and the names of its optional modules without a file
abbrev pub name_in : Module → Text
name_in m = text_if_named m.heading.label.name

abbrev pub kept_in : Module → List (Recipe UnresolvedDependency)
kept_in m = kept_recipes (contents_of m).recipes

abbrev pub absent_in : Module → List Text
absent_in m = flat_map absent_by (items_of m.asts)

-- the first module of a name, with those in it
abbrev pub find_inner : Text → Forest → Option (Module × Forest)
find_inner name Empty = None
find_inner name (Tree m inside after) = if bytes_eq (name_in m) name then Some (m, inside) else find_inner name after

-- Where names lead from a module: into one, with those in it, to one without a file, told by the names up to it, or to no module.
pub data WalkEnd : Type 0 where
  InModule : Module → Forest → WalkEnd
  Missing : List Text → WalkEnd
  Nowhere : WalkEnd

-- where names lead of which the first leads into a module, by where the others lead from there
abbrev pub walk_beyond : Text → WalkEnd → WalkEnd
walk_beyond name (InModule m inside) = InModule m inside
walk_beyond name (Missing names) = Missing (name ∷ names)
walk_beyond name Nowhere = Nowhere

-- where names lead: a module that is there goes before one of its name without a file
abbrev pub follow : List Text → Module → Forest → WalkEnd
follow [] m inside = InModule m inside
follow (name ∷ names) m inside = elim (find_inner name inside) as (λ _. WalkEnd) [
  | Some n ↦ walk_beyond name (follow names n.0 n.1)
  | None ↦ if list_any (λ absent. bytes_eq absent name) (absent_in m) then Missing (name ∷ []) else Nowhere
]

-- where the names of a path lead, but for its last
abbrev pub leads : Module → Forest → Namepath → WalkEnd
leads m inside path = follow (map text_of_name path.front) m inside

-- A recipe of a module, by its name, is disabled by the module without a file at a path: a dependency of it leads through that, or to a recipe that is disabled by it. It is the least such relation; a path is told from the module whose dependency leads through it.
pub data DisabledBy : Module → Forest → Text → Modulepath → Type 0 where
  through_absent : {m : Module} {inside : Forest} {name : Text} (d : Namepath) (names : List Text) → DependsBy (kept_in m) name d → leads m inside d ≡ Missing names
      → DisabledBy m inside name (record { components = names; spaced = false })
  by_disabled : {m : Module} {inside : Forest} {name : Text} {path : Modulepath} (d : Namepath) (n : Module) (below : Forest) → DependsBy (kept_in m) name d → leads m inside d ≡ InModule n below
      → DisabledBy n below (text_of_name d.last) path → DisabledBy m inside name path

-- nothing disables it
abbrev pub StandsInTree : Module → Forest → Text → Type 0
StandsInTree m inside name = (path : Modulepath) → DisabledBy m inside name path → ⊥

-- a path leads to a recipe, or through a module without a file
abbrev pub EndsWell : WalkEnd → Text → Type 0
EndsWell (InModule n below) name = Contains (names_of (kept_in n)) name
EndsWell (Missing names) name = Unit {0}
EndsWell Nowhere name = ⊥

abbrev pub LeadsSomewhere : Module → Forest → Namepath → Type 0
LeadsSomewhere m inside path = EndsWell (leads m inside path) (text_of_name path.last)

-- the kept recipe that a path leads to takes so many arguments at least and at most
pub record TakesIn (lists : Bool) (m : Module) (inside : Forest) (path : Namepath) (least most : ℕ) : Type 0 where
  pub n : Module
  pub below : Forest
  pub leads_in : leads m inside path ≡ InModule n below
  pub j : ℕ
  pub there : j < length (kept_in n)
  pub named : name_of_recipe (recipe_at (kept_in n) j) ≡ text_of_name path.last
  pub least_is : least_of (recipe_at (kept_in n) j) ≡ least
  pub most_is : most_of lists (recipe_at (kept_in n) j) ≡ most

-- what is broken of the dependencies of a module's kept recipes
abbrev pub BreaksDependencies : Bool → Module → Forest → Cause → Type 0
BreaksDependencies lists m inside = Dependencies (LeadsSomewhere m inside) (StandsInTree m inside) (TakesIn lists m inside) lists (kept_in m)

-- the value of an expression among the constants of a module
abbrev pub constant_in : Layers → Evaluated → Module → Expression → Option (List Text)
constant_in layers it m = value_among layers.evaluator (contents_of m) it.constants

-- a rule of one recipe is broken by one of a module's kept recipes that stands
abbrev pub BreaksStandingInTree : Layers → Evaluated → Module → Forest → Cause → Type 0
BreaksStandingInTree layers it m inside = InStanding (StandsInTree m inside) (BreaksRecipe (constant_in layers it m) layers.syntax (known_of layers.syntax (contents_of m)) it.settings) (kept_in m)

-- a pattern of one of these is past the size or the nesting that regular expressions may have
abbrev pub IsPastLimitsIn : Layers → Evaluated → Module → Forest → Cause → Type 0
IsPastLimitsIn layers it m inside = InStanding (StandsInTree m inside) (IsPastLimits (constant_in layers it m)) (kept_in m)

-- The target of an alias leads to a module, to one without a file, or to a kept recipe.
pub data HasTargetInTree (m : Module) (inside : Forest) (path : Namepath) : Type 0 where
  to_module : follow (texts_of_path path) m inside ≢ Nowhere → HasTargetInTree m inside path
  to_recipe : LeadsSomewhere m inside path → HasTargetInTree m inside path

-- The target of an alias leads to nothing, or of the recipes that stand two have the attribute `default`.
pub data BreaksAliasesInTree (m : Module) (inside : Forest) : Cause → Type 0 where
  of_targets : {c : Cause} → BreaksAliasTargets (HasTargetInTree m inside) (contents_of m).aliases c → BreaksAliasesInTree m inside c
  of_defaults : {c : Cause} (standing : List (Recipe UnresolvedDependency)) → AreStanding (StandsInTree m inside) (kept_in m) standing → BreaksDefaults standing c → BreaksAliasesInTree m inside c

-- what is broken of the last groups in a module with those in it
abbrev pub links_in : Module → Forest → Links
links_in m inside layers it OfDependencies = BreaksDependencies it.settings.lists m inside
links_in m inside layers it OfRecipes = BreaksStandingInTree layers it m inside
links_in m inside layers it OfAliases = BreaksAliasesInTree m inside
links_in m inside layers it _ = λ c. ⊥

-- what an error may tell of them: what is broken, or a pattern that is past those limits
abbrev pub told_in : Module → Forest → Links
told_in m inside layers it OfRecipes = λ c. BreaksStandingInTree layers it m inside c ⊎ IsPastLimitsIn layers it m inside c
told_in m inside layers it g = links_in m inside layers it g
