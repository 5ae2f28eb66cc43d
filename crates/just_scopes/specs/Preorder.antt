-- Modules in the order of a walk: each before those in it, and these in the order of their names.
use Rattle.std.specs.Prelude.{◌≡◌, ◌+◌, ◌||◌, ℕ, Bool, false, List, [], ◌∷◌, ◌++◌, length, Option, Some, None}
use Rattle.just_justfile.specs.declared.justfile.Justfile.{Justfile, out-Justfile}

-- a module, the place of the one that it stands in, and whether it is lazy
pub record Placed : Type 0 where
  pub justfile : Justfile
  pub parent : Option ℕ
  pub lazy : Bool

-- a module is lazy where it sets so, or one above it does
abbrev pub is_lazy_under : Bool → Justfile → Bool
is_lazy_under above j = above || (out-Justfile j).settings.lazy

abbrev pub placed_under : Option ℕ → Bool → Justfile → Placed
placed_under parent above j = record { justfile = j; parent = parent; lazy = is_lazy_under above j }

-- The modules of one at a place, which is lazy or not, listed from another place on: each, and after it those in it, before the next.
pub data AreBelow : ℕ → Bool → ℕ → List Justfile → List Placed → Type 0 where
  none : {parent start : ℕ} {above : Bool} → AreBelow parent above start [] []
  one : {parent start : ℕ} {above : Bool} {j : Justfile} {js : List Justfile} {below rest : List Placed} → AreBelow start (is_lazy_under above j) (start + 1) (out-Justfile j).modules below →
      AreBelow parent above (start + 1 + length below) js rest → AreBelow parent above start (j ∷ js) (placed_under (Some parent) above j ∷ (below ++ rest))

-- all that stand in the root, under a lazy module or not: it first, and after it those in it
abbrev pub IsPreorderUnder : Bool → Justfile → List Placed → Type 0
IsPreorderUnder above root modules =
    (below : List Placed) × (modules ≡ placed_under None above root ∷ below) × AreBelow 0 (is_lazy_under above root) 1 (out-Justfile root).modules below

-- and as they are lazy by what they set alone
abbrev pub IsPreorder : Justfile → List Placed → Type 0
IsPreorder = IsPreorderUnder false
