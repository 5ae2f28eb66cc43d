-- A token as contracts see it.
use Rattle.std.specs.Prelude.{ℕ, ◌+◌, List, slice_range}

-- `line` and `column` count from 0, `offset` and `length` count bytes of `src`, the text of the file `path`
pub record Place : Type 0 where
  pub line : ℕ
  pub column : ℕ
  pub offset : ℕ
  pub length : ℕ
  pub path : List ℕ
  pub src : List ℕ

-- the text of a token
abbrev pub lexeme : Place → List ℕ
lexeme t = slice_range t.src t.offset (t.offset + t.length)
