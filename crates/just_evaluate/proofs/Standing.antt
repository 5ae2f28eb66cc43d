-- Where paths lead stands in the root.
use Rattle.std.proofs.Common.{◌≡◌, Bool, true, false, List, [], ◌∷◌, is_some, if◌then◌else◌, Option, Some, None, refl, subst}
use Rattle.std.specs.List.{Contains}
use Rattle.std.specs.Option.{option_and_then, option_or}
use Rattle.just_ast_definitions.specs.declared.alias.Alias.{Alias}
use Rattle.just_ast_definitions.specs.declared.assignment.Assignment.{Assignment}
use Rattle.just_names.specs.Texts.{Text}
use Rattle.just_paths.specs.declared.modulepath.Modulepath.{Modulepath}
use Rattle.just_table.specs.Entries.{find}
use Rattle.just_justfile.proofs.Leading.{named_there, stands_along}
use Rattle.just_justfile.specs.Closed.{StandsIn, inside, itself}
use Rattle.just_justfile.specs.Walks.{inner_along, module_named}
use Rattle.just_justfile.specs.declared.justfile.Justfile.{Justfile, out-Justfile}
use Rattle.just_evaluate.specs.Destination.{Destination, destination, destination_from, lacks_in, lacks_name, last_variable, leads_to, path_below, lacks_file, submodule_named}

-- what stands in a module that stands in the root stands in the root
within : (root here j : Justfile) → StandsIn root here → StandsIn here j → StandsIn root j
within root here j itself s = s
within root here j (inside c s) t = inside c (within _ here j s t)

named_stands : (root here k : Justfile) (name : Text) → StandsIn root here → (first : Option Justfile) → module_named name (out-Justfile here).modules ≡ first →
    (alias : Option (Alias Modulepath)) → option_or first (option_and_then (λ (a : Alias Modulepath). inner_along root a.target.components) alias) ≡ Some k → StandsIn root k
named_stands root here k name s None f None e = cc
named_stands root here k name s None f (Some a) e = stands_along root k a.target.components e
named_stands root here k name s (Some j) f alias e =
    let same : j ≡ k = cc in
    within root here k s (inside (subst (Contains (out-Justfile here).modules) same (named_there name (out-Justfile here).modules j f)) itself)

-- the variable, if there is one, is the module's
Owned : Justfile → Option Assignment → Type 0
Owned j None = Unit {0}
Owned j (Some variable) = (name : Text) × (find name (out-Justfile j).assignments ≡ Some variable)

IsInside : Justfile → Destination → Type 0
IsInside root (leads_to j variable) = StandsIn root j × Owned j variable
IsInside root _ = Unit {0}

lacks_inside : (root here : Justfile) (name : Text) (names : List Text) (b : Bool) → IsInside root (if b then lacks_file (path_below here name) else lacks_name name names)
unfolding IsInside
lacks_inside root here name names true = tt
lacks_inside root here name [] false = tt
lacks_inside root here name (x ∷ names) false = tt

own : (here : Justfile) (name : Text) (names : List Text) (variable : Assignment) → last_variable here name names ≡ Some variable → Owned here (Some variable)
unfolding Owned
own here name [] variable e = (name, e)
own here name (x ∷ names) variable e = cc

onward : Justfile → Justfile → Text → List Text → Option Assignment → Option Justfile → Destination
onward root here name names variable inner = elim variable as (λ _. Destination) [
  | Some found ↦ leads_to here (Some found)
  | None ↦ elim inner as (λ _. Destination) [
    | Some j ↦ destination_from root j names
    | None ↦ lacks_in here name names
  ]
]

onward_inside : (root here : Justfile) (name : Text) (names : List Text) → StandsIn root here → ((k : Justfile) → StandsIn root k → IsInside root (destination_from root k names)) →
    (variable : Option Assignment) → last_variable here name names ≡ variable → (inner : Option Justfile) → submodule_named root here name ≡ inner →
    IsInside root (onward root here name names variable inner)
unfolding onward IsInside
onward_inside root here name names s ih (Some variable) v inner m = (s, own here name names variable v)
onward_inside root here name names s ih None v (Some k) m =
    ih k (named_stands root here k name s (module_named name (out-Justfile here).modules) refl (find name (out-Justfile here).aliases.modules) m)
onward_inside root here name names s ih None v None m = lacks_inside root here name names (is_some (find name (out-Justfile here).absent_modules))

inside_from : (root here : Justfile) (names : List Text) → StandsIn root here → IsInside root (destination_from root here names)
unfolding onward IsInside Owned
inside_from root here [] s = (s, tt)
inside_from root here (name ∷ names) s =
    onward_inside root here name names s (λ k. inside_from root k names) (last_variable here name names) refl (submodule_named root here name) refl

inside_of : (root : Justfile) (path : Option Modulepath) → IsInside root (destination root path)
unfolding IsInside Owned
inside_of root None = (itself, tt)
inside_of root (Some path) = inside_from root root path.components itself

pub stands_led : (root j : Justfile) (path : Option Modulepath) (variable : Option Assignment) → destination root path ≡ leads_to j variable → StandsIn root j
unfolding IsInside
stands_led root j path variable e = (subst (IsInside root) e (inside_of root path)).0

pub own_led : (root j : Justfile) (path : Option Modulepath) (variable : Assignment) → destination root path ≡ leads_to j (Some variable) →
    (name : Text) × (find name (out-Justfile j).assignments ≡ Some variable)
unfolding IsInside Owned
own_led root j path variable e = (subst (IsInside root) e (inside_of root path)).1
