-- What private functions say beside `Rows.antt`.
use Rattle.std.specs.Prelude.{◌≡◌, ◌↔◌, ◌-◌, ℕ, ◌<◌, List, [], ◌∷◌, ◌++◌, length, get_or, slice_index, Option, Some, None}
use Rattle.std.specs.BTreeSet.{BTreeSet}
use Rattle.std.specs.List.{AllZip, Contains, slice_get}
use Rattle.just_graph.specs.Steps.{IsOnce, ListsStepsFirst}
use Rattle.just_errors.specs.Causes.{Cause, Broken}
use Rattle.just_errors.specs.declared.compile_error.CompileErrorKind.TheVariants as kind
use Rattle.just_justfile.specs.declared.resolution.Resolution.{Resolution}
use Rattle.just_justfile.specs.declared.resolution.Resolution.TheVariants as resolution
use Rattle.just_module_contents.specs.Recipes.{name_of_recipe, named_paths, recipe_at}
use Rattle.just_module_contents.specs.Rules.{DependsBy, IsRecipeCircleOf, IsDependencyOn}
use Rattle.just_module_recipes.specs.Links.{Around, PathLeadsTo, IsNameOf, around_recipes, found_by}
use Rattle.just_module_recipes.specs.declared.targets.Surroundings.{Surroundings}
use Rattle.just_module_recipes.specs.declared.targets.Target.{Target}
use Rattle.just_module_recipes.specs.declared.targets.Target.TheVariants.{Near, Far, Gone}
use Rattle.just_names.specs.Name.{texts_of_path}
use Rattle.just_names.specs.Token.{Place}
use Rattle.just_names.specs.declared.name.Namepath.{Namepath}
use Rattle.just_names.specs.declared.number.Number.{Number}
use Rattle.just_paths.specs.declared.modulepath.Modulepath.{Modulepath}
use Rattle.just_recipe.specs.declared.dependency.UnresolvedDependency.{UnresolvedDependency}
use Rattle.just_recipe.specs.declared.recipe.Recipe.{Recipe}
use Rattle.just_module_recipes.specs.Rows.{keys_at}

-- what the code has around a module's recipes
abbrev pub around_by : Surroundings → Around
around_by it = around_recipes it.absent.now it.modules.now it.recipes.now

-- what a walk through the modules gives
abbrev pub far_of : Option (Resolution Number) → Option Target
far_of None = None
far_of (Some (resolution.Resolved number)) = Some (Far number)
far_of (Some (resolution.Disabled set)) = Some (Gone set)

-- a recipe of the module at a place goes before what a walk gives
abbrev pub target_by : Option ℕ → Option (Resolution Number) → Option Target
target_by (Some place) found = Some (Near place)
target_by None found = far_of found

-- what a path leads to
abbrev pub IsTarget : List (Recipe UnresolvedDependency) → Around → Namepath → Target → Type 0
IsTarget recipes it path (Near place) = IsNameOf recipes path place
IsTarget recipes it path (Far number) = found_by it path ≡ Some (resolution.Resolved number)
IsTarget recipes it path (Gone set) = found_by it path ≡ Some (resolution.Disabled set)

-- what the dependency at a place of others leads to
abbrev pub IsTargetAt : List (Recipe UnresolvedDependency) → Around → List UnresolvedDependency → ℕ → Target → Type 0
IsTargetAt recipes it ds at target = (d : UnresolvedDependency) → slice_get ds at ≡ Some d → IsTarget recipes it d.recipe target

-- what a dependency leads to, and what each does of which there are several
abbrev pub IsTargetOf : List (Recipe UnresolvedDependency) → Around → UnresolvedDependency → Target → Type 0
IsTargetOf recipes it d target = IsTarget recipes it d.recipe target

abbrev pub AreTargets : List (Recipe UnresolvedDependency) → Around → List UnresolvedDependency → List Target → Type 0
AreTargets recipes it ds row = AllZip (IsTargetOf recipes it) ds row

-- the rows of the first n recipes
pub record AreRecipeRows (recipes : List (Recipe UnresolvedDependency)) (it : Around) (n : ℕ) (rows : List (List Target)) : Type 0 where
  pub count : length rows ≡ n
  pub each : (k : ℕ) → k < n → AreTargets recipes it (recipe_at recipes k).dependencies (get_or rows k [])

-- the same, whatever there is around the recipes
abbrev pub HasTargets : List (Recipe UnresolvedDependency) → ℕ → List Target → Type 0
HasTargets recipes place row = (it : Around) × AreTargets recipes it (recipe_at recipes place).dependencies row

abbrev pub HasRecipeRows : List (Recipe UnresolvedDependency) → List (List Target) → Type 0
HasRecipeRows recipes rows = (it : Around) × AreRecipeRows recipes it (length recipes) rows

-- the places among targets
abbrev pub near : List Target → List ℕ
near [] = []
near (Near place ∷ ts) = place ∷ near ts
near (Far number ∷ ts) = near ts
near (Gone set ∷ ts) = near ts

-- Each place once, after those that its row has.
pub record IsOrderOf (rows : List (List Target)) (order : List ℕ) : Type 0 where
  pub below : (k : ℕ) → k < length order → slice_index order k < length rows
  pub inside : (k j : ℕ) → k < length rows → Contains (near (get_or rows k [])) j → j < length rows
  pub all : (i : ℕ) → i < length rows → Contains order i
  pub once : IsOnce order
  pub first : ListsStepsFirst (λ a b. Contains (near (get_or rows a [])) b) order

-- The token of a dependency on the recipe at a place.
pub record IsTokenOn (recipes : List (Recipe UnresolvedDependency)) (dependent place : ℕ) (token : Place) : Type 0 where
  pub path : Namepath
  pub depends : Contains (named_paths (recipe_at recipes dependent)) path
  pub names : texts_of_path path ≡ name_of_recipe (recipe_at recipes place) ∷ []
  pub token_is : token ≡ path.last.token

-- A dependency leads to no recipe.
pub data Lost (recipes : List (Recipe UnresolvedDependency)) (it : Around) : Cause → Type 0 where
  lost : {recipe : List ℕ} {unknown : Namepath} → DependsBy recipes recipe unknown → (PathLeadsTo recipes it unknown → ⊥) → Lost recipes it (Broken unknown.last.token (kind.UnknownDependency recipe unknown))

-- A recipe depends on itself.
pub data Circular (recipes : List (Recipe UnresolvedDependency)) : Cause → Type 0 where
  circle : {recipe : List ℕ} {circle : List (List ℕ)} {path : Namepath} → IsRecipeCircleOf recipes recipe circle → IsDependencyOn recipes recipe (get_or circle (length circle - 1) []) path
      → Circular recipes (Broken path.last.token (kind.CircularRecipeDependency recipe circle))

-- A recipe at a place is barred by a path: a dependency of it is gone by that, or leads to one of the module that is barred by it.
pub data Bars (rows : List (List Target)) : ℕ → Modulepath → Type 0 where
  itself : {i : ℕ} {path : Modulepath} (set : BTreeSet Modulepath) → Contains (get_or rows i []) (Gone set) → Contains set.keys path → Bars rows i path
  through : {i : ℕ} {path : Modulepath} (j : ℕ) → Contains (get_or rows i []) (Near j) → Bars rows j path → Bars rows i path

-- two lists have the same members
pub record SameMembers {A : Type 0} (xs ys : List A) : Type 0 where
  pub into : (x : A) → Contains xs x → Contains ys x
  pub back : (x : A) → Contains ys x → Contains xs x

-- the sets at places, with the paths of what is gone
abbrev pub gathered_paths : List (BTreeSet Modulepath) → List Target → List Modulepath
gathered_paths sets [] = []
gathered_paths sets (Near j ∷ ts) = keys_at sets j ++ gathered_paths sets ts
gathered_paths sets (Far number ∷ ts) = gathered_paths sets ts
gathered_paths sets (Gone set ∷ ts) = set.keys ++ gathered_paths sets ts

-- the sets of the first n of an order are exactly what bars
abbrev pub AreTold : List (List Target) → List ℕ → ℕ → List (BTreeSet Modulepath) → Type 0
AreTold rows order n sets = (k : ℕ) → k < n → (path : Modulepath) → Contains (keys_at sets (slice_index order k)) path ↔ Bars rows (slice_index order k) path
