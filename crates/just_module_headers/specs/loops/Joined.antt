-- What private functions say beside `Joined.antt`.
use Rattle.std.specs.Prelude.{ℕ}
use Rattle.just_module_headers.specs.declared.join.Joined.{Joined}
use Rattle.just_module_headers.specs.declared.files.Rows.{Rows}
use Rattle.just_module_headers.specs.Joined.{IsJoined}

-- what was joined stays
abbrev pub StaysJoined : Rows → Joined → Joined → Type 0
StaysJoined rows old new = (a : ℕ) → IsJoined rows old a → IsJoined rows new a
