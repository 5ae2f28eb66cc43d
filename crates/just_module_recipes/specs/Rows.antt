-- What the dependencies of a module's recipes lead to, by places and numbers.
use Rattle.std.specs.Prelude.{◌-◌, ℕ, List, [], get_or}
use Rattle.std.specs.BTreeSet.{BTreeSet}
use Rattle.just_paths.specs.declared.modulepath.Modulepath.{Modulepath}

-- the set at a place
abbrev pub no_paths : BTreeSet Modulepath
no_paths = record { keys = [] }

abbrev pub keys_at : List (BTreeSet Modulepath) → ℕ → List Modulepath
keys_at sets i = (get_or sets i no_paths).keys
