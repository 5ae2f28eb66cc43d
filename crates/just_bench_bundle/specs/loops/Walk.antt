-- A walk over files, from one to those to which it leads.
use Rattle.std.specs.Prelude.{◌≡◌, ◌+◌, ◌⊎◌, ℕ, List, length, IsTrue}
use Rattle.std.specs.HashSet.{contains_by, hash_set_len}
use Rattle.std.specs.List.{Contains}
use Rattle.std.specs.Map.{keys_of}
use Rattle.std.specs.Str.{bytes_eq}
use Rattle.just_bench_bundle.specs.declared.walk.Walk.{Walk}
use Rattle.just_loader.specs.Links.{Link, To}
use Rattle.just_loader.specs.loops.Scanned.{Grows}
use Rattle.just_loader.specs.Sources.{Files}
use Rattle.just_names.specs.Texts.{Text, texts}
use Rattle.just_parts.specs.Items.{Item}

-- the paths that are found, in order
abbrev pub found_in : Walk → List Text
found_in walk = texts walk.found.items

-- a path is left to be found
abbrev pub IsLeft : Walk → Text → Type 0
IsLeft walk path = IsTrue (contains_by (λ k. bytes_eq path k.now) walk.left)

-- each file is found or left
abbrev pub HasAll : Files → Walk → Type 0
HasAll files walk = (path : Text) → Contains (keys_of files) path → Contains (found_in walk) path ⊎ IsLeft walk path

-- how many there are
abbrev pub count_in : Walk → ℕ
count_in walk = length walk.found.items + hash_set_len walk.left

-- Some paths are found, all with the property, and are not left then.
pub record Walks (P : Text → Type 0) (old new : Walk) : Type 0 where
  pub grows : Grows P (found_in old) (found_in new)
  pub taken : (path : Text) → IsLeft old path → Contains (found_in new) path ⊎ IsLeft new path
  pub fewer : (path : Text) → IsLeft new path → IsLeft old path
  pub count : count_in new ≡ count_in old

-- no path with the property is left
abbrev pub LeavesNone : (Text → Type 0) → Walk → Type 0
LeavesNone P walk = (path : Text) → P path → IsLeft walk path → ⊥

-- one of the items leads to a path
abbrev pub LeadAmong : List Item → (Item → Link) → Text → Type 0
LeadAmong items leads path = (item : Item) × Contains items item × (leads item ≡ To path)
