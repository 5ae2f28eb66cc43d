-- What is made of a module's recipes, by what their dependencies lead to and by what disables them.
use Rattle.std.specs.Prelude.{List, [], ◌∷◌, ◌++◌}
use Rattle.std.specs.BTreeSet.{BTreeSet}
use Rattle.just_paths.specs.declared.modulepath.Modulepath.{Modulepath}
use Rattle.just_recipe.specs.declared.dependency.UnresolvedDependency.{UnresolvedDependency}
use Rattle.just_recipe.specs.declared.recipe.Recipe.{Recipe}

-- the recipes that nothing disables, and the others with what disables them
abbrev pub standing_by : List Modulepath → Recipe UnresolvedDependency → List (Recipe UnresolvedDependency)
standing_by [] r = r ∷ []
standing_by (p ∷ ps) r = []

abbrev pub standing : List (BTreeSet Modulepath) → List (Recipe UnresolvedDependency) → List (Recipe UnresolvedDependency)
standing [] rs = []
standing (s ∷ ss) [] = []
standing (s ∷ ss) (r ∷ rs) = standing_by s.keys r ++ standing ss rs
