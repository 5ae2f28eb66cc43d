-- What a writer has when it faults.
use Rattle.std.specs.Prelude.{◌≡◌, ◌<◌, ℕ, List, ◌++◌, length, take}

-- A writer that faulted within some bytes: it has what it had, and then a beginning of them, which are not all.
pub record IsCutShort (before bytes after : List ℕ) : Type 0 where
  pub count : ℕ
  pub fewer : count < length bytes
  pub begun : after ≡ before ++ take count bytes
