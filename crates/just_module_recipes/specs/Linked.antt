-- What the recipes of a module are linked to.
use Rattle.std.specs.Prelude.{◌≡◌, ◌≢◌, ◌↔◌, ℕ, ◌<◌, ◌++◌, Bool, List, [], ◌∷◌, length, Some, IsSome}
use Rattle.std.specs.BTreeSet.{BTreeSet}
use Rattle.std.specs.List.{All, AllZip, Contains}
use Rattle.just_justfile.specs.declared.disabled.Disabled.{Disabled}
use Rattle.just_justfile.specs.declared.resolution.Resolution.TheVariants as resolution
use Rattle.just_module_contents.specs.Recipes.{name_of_recipe, recipe_at}
use Rattle.just_module_contents.specs.Resolved.{IsResolvedAt, number_at}
use Rattle.just_module_recipes.specs.Completing.{Completion}
use Rattle.just_module_recipes.specs.Links.{Around, IsNameOf, Stands, found_by}
use Rattle.just_names.specs.Texts.{Text}
use Rattle.just_names.specs.Name.{text_of_name}
use Rattle.just_names.specs.declared.name.Namepath.{Namepath}
use Rattle.just_names.specs.declared.number.Number.{Number}
use Rattle.just_paths.specs.declared.modulepath.Modulepath.{Modulepath}
use Rattle.just_recipe.specs.Grouping.{grouped, concatenated}
use Rattle.just_recipe.specs.Recipes.{IsResolved, find_number}
use Rattle.just_recipe.specs.declared.dependency.Dependency.{Dependency}
use Rattle.just_recipe.specs.declared.dependency.UnresolvedDependency.{UnresolvedDependency}
use Rattle.just_recipe.specs.declared.recipe.Recipe.{Recipe}
use Rattle.just_table.specs.Entries.{put_all}

-- What the modules say of their recipes: each that stands is held under its number, and each that does not is disabled by some module.
pub record AreSettled (it : Around) : Type 0 where
  pub held : (path : Namepath) (n : Number) → found_by it path ≡ Some (resolution.Resolved n) → IsSome (find_number it.held n.0)
  pub disabled : (path : Namepath) (set : BTreeSet Modulepath) → found_by it path ≡ Some (resolution.Disabled set) → set.keys ≢ []

-- the number of the recipe that a path leads to
pub data HasNumber (recipes : List (Recipe UnresolvedDependency)) (it : Around) (path : Namepath) (n : Number) : Type 0 where
  of_near : (j : ℕ) → IsNameOf recipes path j → (recipe_at recipes j).number ≡ n → HasNumber recipes it path n
  of_far : found_by it path ≡ Some (resolution.Resolved n) → HasNumber recipes it path n

-- What recipes are linked to, where some stand, paths lead to numbers, and recipes are completed first.
module _ (Stands : Text → Type 0) (HasNumber : Namepath → Number → Type 0) (completed : Completion) (lists : Bool) (all : List (Recipe Dependency)) where
  -- A dependency is linked to one of all recipes: it has the number that its path leads to, under which that recipe is held, and its arguments are grouped for the parameters of that, with none left over.
  pub record IsLinked (d : UnresolvedDependency) (made : Dependency) : Type 0 where
    pub path : made.path ≡ d.recipe
    pub number : HasNumber d.recipe made.recipe
    pub target : Recipe Dependency
    pub held : find_number all made.recipe.0 ≡ Some target
    pub arguments : made.arguments ≡ grouped lists target.parameters d.arguments
    pub whole : concatenated made.arguments ≡ d.arguments

  -- What is made of a recipe of the module at a path: it is that of the source, completed, with the numbers of what it needs, and each of its dependencies is linked.
  pub record IsMadeOf (path : Modulepath) (source : Recipe UnresolvedDependency) (made : Recipe Dependency) : Type 0 where
    pub resolved : IsResolvedAt path (completed.by source) made
    pub references : completed.Needs source made.variable_references
    pub dependencies : AllZip IsLinked (completed.by source).dependencies made.dependencies

  -- the recipe at a place stands, and this is made of it
  pub record IsMadeAt (recipes : List (Recipe UnresolvedDependency)) (path : Modulepath) (i : ℕ) (made : Recipe Dependency) : Type 0 where
    pub there : i < length recipes
    pub stands : Stands (name_of_recipe (recipe_at recipes i))
    pub made_of : IsMadeOf path (recipe_at recipes i) made

  -- What is added: what is made of exactly the recipes that stand, each of which is found under its number.
  pub record AreLinked (recipes : List (Recipe UnresolvedDependency)) (path : Modulepath) (added : List (Recipe Dependency)) : Type 0 where
    pub each : (i : ℕ) → i < length recipes → Stands (name_of_recipe (recipe_at recipes i)) → (made : Recipe Dependency) × (find_number all (number_at recipes i) ≡ Some made) × IsMadeAt recipes path i made
    pub only : (made : Recipe Dependency) → Contains added made → (i : ℕ) × IsMadeAt recipes path i made
    pub resolved : All IsResolved added

-- The recipes that are held, and behind them those of a module, linked.
pub record AddsLinked (completed : Completion) (lists : Bool) (recipes : List (Recipe UnresolvedDependency)) (it : Around) (path : Modulepath) (all : List (Recipe Dependency)) : Type 0 where
  pub added : List (Recipe Dependency)
  pub appended : all ≡ it.held ++ added
  pub linked : AreLinked (Stands recipes it) (HasNumber recipes it) completed lists all recipes path added

-- Of recipes those that something disables, in order, each with exactly the paths that do.
pub data AreDisabled (Disables : Text → Modulepath → Type 0) : List (Recipe UnresolvedDependency) → List Disabled → Type 0 where
  none : AreDisabled Disables [] []
  stands : {r : Recipe UnresolvedDependency} {rs : List (Recipe UnresolvedDependency)} {ds : List Disabled} → ((path : Modulepath) → Disables (name_of_recipe r) path → ⊥) → AreDisabled Disables rs ds → AreDisabled Disables (r ∷ rs) ds
  falls : {r : Recipe UnresolvedDependency} {rs : List (Recipe UnresolvedDependency)} {d : Disabled} {ds : List Disabled} → d.name ≡ r.name → d.modules.keys ≢ [] → ((path : Modulepath) → Contains d.modules.keys path ↔ Disables (name_of_recipe r) path)
      → AreDisabled Disables rs ds → AreDisabled Disables (r ∷ rs) (d ∷ ds)

abbrev pub name_of_disabled : Disabled → Text
name_of_disabled d = text_of_name d.name

-- the table of what is disabled: each under its name
abbrev pub disabled_table : List Disabled → List (Text × Disabled)
disabled_table ds = put_all name_of_disabled [] ds

-- a table has the recipes that something disables, and nothing else
abbrev pub HasDisabled : (Text → Modulepath → Type 0) → List (Recipe UnresolvedDependency) → List (Text × Disabled) → Type 0
HasDisabled Disables recipes table = (ds : List Disabled) × AreDisabled Disables recipes ds × (table ≡ disabled_table ds)
