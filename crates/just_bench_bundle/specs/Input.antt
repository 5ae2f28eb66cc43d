-- Why an input is not read.
use Rattle.std.specs.Prelude.{ℕ, List, Option, IfSome}
use Rattle.std.specs.Io.KnownBytes.{Consumes}
use Rattle.std.specs.Str.{IsUtf8}
use Rattle.just_bench_bundle.specs.declared.input.InputError.{InputError}
use Rattle.just_bench_bundle.specs.declared.input.InputError.TheVariants.{Memory, NotText, Unreadable}

-- an input was read on: a beginning of what was left to read is gone, and no more
abbrev pub IsReadOn : Option (List ℕ) → Option (List ℕ) → Type 0
IsReadOn old new = (read : List ℕ) × Consumes old new read

-- why an input is not read as a text, where these bytes are left to read, if that is known
abbrev pub IsUnread : Option (List ℕ) → InputError → Type 0
IsUnread left NotText = IfSome left (λ bytes. IsUtf8 bytes → ⊥)
IsUnread left Unreadable = Unit {0}
IsUnread left Memory = Unit {0}
