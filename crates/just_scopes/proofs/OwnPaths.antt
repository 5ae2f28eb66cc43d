-- Modules that stand in a closed root have paths of their own.
use Rattle.std.proofs.Common.{◌≡◌, ◌∙◌, List, [], ◌∷◌, ◌++◌, length, drop, Option, Some, refl, sym, ap}
use Rattle.just_names.specs.Texts.{Text}
use Rattle.just_paths.specs.declared.modulepath.Modulepath.{Modulepath}
use Rattle.just_recipe.specs.declared.dependency.Dependency.{Dependency}
use Rattle.just_recipe.specs.declared.recipe.Recipe.{Recipe}
use Rattle.just_justfile.specs.Closed.{AreClosed, StandsIn}
use Rattle.just_justfile.specs.Walks.{inner_along}
use Rattle.just_justfile.specs.declared.justfile.Justfile.{Justfile, out-Justfile}
use Rattle.just_justfile.proofs.Returning.{IsBelow, stands_by}

dropped : {A : Type 0} (front rest : List A) → drop (length front) (front ++ rest) ≡ rest
dropped [] rest = refl
dropped (x ∷ front) rest = dropped front rest

-- the module to which the names of a path lead after those of the root's
abbrev at_path : Justfile → Modulepath → Option Justfile
at_path root path = inner_along root (drop (length (out-Justfile root).module_path.components) path.components)

-- it is found by its path
found_at : (recipes : List (Recipe Dependency)) (root j : Justfile) → AreClosed recipes root → StandsIn root j → at_path root (out-Justfile j).module_path ≡ Some j
found_at recipes root j closed stands =
    let below : IsBelow root j = stands_by closed stands in
    let front : List Text = (out-Justfile root).module_path.components in
    ap (λ names. inner_along root (drop (length front) names)) below.path ∙ ap (inner_along root) (dropped front below.names) ∙ below.found

one-module : (o : Option Justfile) (i j : Justfile) → o ≡ Some i → o ≡ Some j → i ≡ j
one-module o i j h k = cc

-- so two of one path are one
pub own_paths : (recipes : List (Recipe Dependency)) (root i j : Justfile) → AreClosed recipes root → StandsIn root i → StandsIn root j → (out-Justfile i).module_path ≡ (out-Justfile j).module_path → i ≡ j
own_paths recipes root i j closed here there same =
    one-module (at_path root (out-Justfile j).module_path) i j (sym (ap (at_path root) same) ∙ found_at recipes root i closed here) (found_at recipes root j closed there)
