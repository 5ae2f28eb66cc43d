-- What an output with a limit holds, and what a write makes of it.
use Rattle.std.specs.Prelude.{ℕ, ◌-◌, Bool, true, List, ◌++◌, length, take, min}

-- the bytes that were written, how many there may be in all, and whether a write faulted
pub record Filled : Type 0 where
  pub written : List ℕ
  pub limit : ℕ
  pub failed : Bool

-- how many bytes more there may be
abbrev pub room : Filled → ℕ
room writer = writer.limit - length writer.written

-- how many of the bytes a write takes
abbrev pub taken : Filled → List ℕ → ℕ
taken writer bytes = min (room writer) (length bytes)

-- with so many of the bytes at the end
abbrev pub after_write : Filled → List ℕ → Filled
after_write writer bytes = record { written = writer.written ++ take (taken writer bytes) bytes; limit = writer.limit; failed = writer.failed }

-- with the fault told, and nothing written
abbrev pub after_fault : Filled → Filled
after_fault writer = record { written = writer.written; limit = writer.limit; failed = true }
