-- Names by their places.
use Rattle.std.specs.Prelude.{◌≡◌, ◌≢◌, ℕ, ◌<◌, List, [], length, map, get_or, Option, Some, None}
use Rattle.just_names.specs.Name.{text_of_name}
use Rattle.just_names.specs.declared.name.Name.{Name}

-- the texts of names
abbrev pub texts_of_names : List Name → List (List ℕ)
texts_of_names = map text_of_name

abbrev pub name_at : List (List ℕ) → ℕ → List ℕ
name_at names i = get_or names i []

-- two places have one name, and no place between them has it
pub record Repeats (names : List (List ℕ)) (i j : ℕ) : Type 0 where
  pub apart : i < j
  pub within : j < length names
  pub same : name_at names i ≡ name_at names j
  pub next : (k : ℕ) → i < k → k < j → name_at names k ≢ name_at names j

-- no place among the first n repeats the name of one below a bound
abbrev pub NoneRepeats : List (List ℕ) → ℕ → ℕ → Type 0
NoneRepeats names n bound = (i j : ℕ) → Repeats names i j → j < n → i < bound → ⊥

-- no name stands at two places
abbrev pub AreDifferent : List (List ℕ) → Type 0
AreDifferent names = (i j : ℕ) → i < j → j < length names → name_at names i ≢ name_at names j

-- the last place of a name among the first n
abbrev pub IsLast : List (List ℕ) → ℕ → List ℕ → Option ℕ → Type 0
IsLast names n name None = (k : ℕ) → k < n → name_at names k ≢ name
IsLast names n name (Some j) = (j < n) × (name_at names j ≡ name) × ((k : ℕ) → j < k → k < n → name_at names k ≢ name)

-- each name is found at its place
abbrev pub IsIndex : List (List ℕ) → (List ℕ → Option ℕ) → Type 0
IsIndex names found = (name : List ℕ) → IsLast names (length names) name (found name)
