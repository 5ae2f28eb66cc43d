-- Recipes as they are resolved.
use Rattle.std.specs.Prelude.{◌≡◌, ℕ, ◌≤◌, List, [], ◌∷◌, ◌++◌, map, length, slice_index, Some}
use Rattle.std.specs.List.{Contains}
use Rattle.just_names.specs.Name.{text_of_name}
use Rattle.just_recipe.specs.declared.dependency.Dependency.{Dependency}
use Rattle.just_recipe.specs.declared.dependency.UnresolvedDependency.{UnresolvedDependency}
use Rattle.just_paths.specs.declared.modulepath.Modulepath.{Modulepath}
use Rattle.just_recipe.specs.declared.recipe.Recipe.{Recipe}
use Rattle.just_recipe.specs.Recipes.{numbers}

-- the numbers of recipes that are not resolved
abbrev pub unresolved_numbers : List (Recipe UnresolvedDependency) → List ℕ
unresolved_numbers = map (λ r. r.number.0)

-- no recipe that is held has a number of these
abbrev pub AreNew : List (Recipe Dependency) → List (Recipe UnresolvedDependency) → Type 0
AreNew held rs = (m : ℕ) → Contains (numbers held) m → Contains (unresolved_numbers rs) m → ⊥

-- the number of the recipe at a place
abbrev pub number_at : List (Recipe UnresolvedDependency) → ℕ → ℕ
number_at recipes place = slice_index (unresolved_numbers recipes) place

-- no more dependencies run before a recipe than it has
abbrev pub HasPriors : Recipe UnresolvedDependency → Type 0
HasPriors recipe = recipe.priors ≤ length recipe.dependencies

-- a path that leads one name on
abbrev pub path_to : Modulepath → List ℕ → Modulepath
path_to path name = record { components = path.components ++ name ∷ []; spaced = path.spaced }

-- A recipe is that of the source, with its paths; its dependencies and the variables that it needs aside.
pub record IsResolvedAt (path : Modulepath) (source : Recipe UnresolvedDependency) (made : Recipe Dependency) : Type 0 where
  pub name : made.name ≡ source.name
  pub number : made.number ≡ source.number
  pub parameters : made.parameters ≡ source.parameters
  pub priors : made.priors ≡ source.priors
  pub private : made.private ≡ source.private
  pub attributes : made.attributes ≡ source.attributes
  pub body : made.body ≡ source.body
  pub doc : made.doc ≡ source.doc
  pub quiet : made.quiet ≡ source.quiet
  pub shebang : made.shebang ≡ source.shebang
  pub file_depth : made.file_depth ≡ source.file_depth
  pub import_offsets : made.import_offsets ≡ source.import_offsets
  pub module_path : made.module_path ≡ Some path
  pub recipe_path : made.recipe_path ≡ Some (path_to path (text_of_name source.name))
