-- A module is found by its own path.
use Rattle.std.proofs.Common.{◌≡◌, ◌∙◌, List, [], ◌∷◌, ◌++◌, Option, None, Some, refl, sym, ap}
use Rattle.std.specs.List.{Contains}
use Rattle.std.proofs.lemmas.List.{append-nil, append_assoc}
use Rattle.just_justfile.specs.Closed.{AreClosed, HaveInnerNames, StandsIn, have_names, inner_closed, inside, itself}
use Rattle.just_justfile.specs.Module.{module_name}
use Rattle.just_justfile.specs.Walks.{inner_along}
use Rattle.just_justfile.specs.declared.justfile.Justfile.{Justfile, out-Justfile}
use Rattle.just_justfile.proofs.Searching.{named_by}
use Rattle.just_names.specs.Texts.{Text}
use Rattle.just_paths.specs.declared.modulepath.Modulepath.{Modulepath}
use Rattle.just_recipe.specs.declared.dependency.Dependency.{Dependency}
use Rattle.just_recipe.specs.declared.recipe.Recipe.{Recipe}

-- what follows a name, by the module of the name
next_by : List Text → Option Justfile → Option Justfile
next_by names found = elim found as (λ _. Option Justfile) [
  | Some inner ↦ inner_along inner names
  | None ↦ None
]

-- The names by which a module is found below another one, and which end its path.
pub record IsBelow (root j : Justfile) : Type 0 where
  pub names : List Text
  pub path : (out-Justfile j).module_path.components ≡ (out-Justfile root).module_path.components ++ names
  pub found : inner_along root names ≡ Some j

further : (root inner j : Justfile) → HaveInnerNames root → Contains (out-Justfile root).modules inner → IsBelow inner j → IsBelow root j
unfolding next_by
further root inner j names c below = record {
  names = module_name inner ∷ below.names;
  path = below.path ∙ ap (λ (p : Modulepath). p.components ++ below.names) (names.paths inner c) ∙ append_assoc (out-Justfile root).module_path.components (module_name inner ∷ []) below.names;
  found = ap (next_by below.names) (named_by (out-Justfile root).modules names.names inner c) ∙ below.found;
}

pub stands_by : {recipes : List (Recipe Dependency)} {root j : Justfile} → AreClosed recipes root → StandsIn root j → IsBelow root j
stands_by {root = root} closed itself = record { names = []; path = sym (append-nil (out-Justfile root).module_path.components); found = refl }
stands_by {root = root} {j = j} closed (inside {inner = inner} c s) = further root inner j (have_names closed) c (stands_by (inner_closed closed inner c) s)

pub found_by_path : (recipes : List (Recipe Dependency)) (root j : Justfile) → AreClosed recipes root → (out-Justfile root).module_path.components ≡ [] → StandsIn root j → inner_along root (out-Justfile j).module_path.components ≡ Some j
found_by_path recipes root j closed top s = let below = stands_by closed s in ap (inner_along root) (below.path ∙ ap (λ cs. cs ++ below.names) top) ∙ below.found
