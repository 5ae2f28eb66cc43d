-- What private functions say beside `Completing.antt`.
use Rattle.std.specs.Prelude.{◌≡◌, ℕ, Bool, List, length, map}
use Rattle.just_names.specs.declared.name.Namepath.{Namepath}
use Rattle.just_recipe.specs.Grouping.{grouped}
use Rattle.just_recipe.specs.declared.dependency.DependencyArgument.{DependencyArgument}
use Rattle.just_recipe.specs.declared.dependency.UnresolvedDependency.{UnresolvedDependency}
use Rattle.just_recipe.specs.declared.recipe.Recipe.{Recipe}

-- the paths of dependencies
abbrev pub paths_of : List UnresolvedDependency → List Namepath
paths_of = map (λ (d : UnresolvedDependency). d.recipe)

-- how many arguments each is given
abbrev pub counts_of : List UnresolvedDependency → List ℕ
counts_of = map (λ (d : UnresolvedDependency). length d.arguments)

-- Whatever tells a recipe apart and leads on from it stays, with as many arguments, and so does how arguments are grouped for its parameters.
pub record IsCompleting (by : Recipe UnresolvedDependency → Recipe UnresolvedDependency) : Type 0 where
  pub name : (r : Recipe UnresolvedDependency) → (by r).name ≡ r.name
  pub number : (r : Recipe UnresolvedDependency) → (by r).number ≡ r.number
  pub priors : (r : Recipe UnresolvedDependency) → (by r).priors ≡ r.priors
  pub paths : (r : Recipe UnresolvedDependency) → paths_of (by r).dependencies ≡ paths_of r.dependencies
  pub counts : (r : Recipe UnresolvedDependency) → counts_of (by r).dependencies ≡ counts_of r.dependencies
  pub grouping : (lists : Bool) (r : Recipe UnresolvedDependency) (arguments : List DependencyArgument) → grouped lists (by r).parameters arguments ≡ grouped lists r.parameters arguments
