-- What a writer gets of a text, and what a line is.
use Rattle.std.specs.Prelude.{◌≡◌, ℕ, List, [], ◌∷◌, ◌++◌, Option, false}
use Rattle.std.specs.Char.{is_control}
use Rattle.std.specs.List.{All}
use Rattle.std.specs.Str.{encode_utf8_all}
use Rattle.std.specs.Io.KnownBytes.{Appends}

-- A writer got a beginning of some bytes, or all of them. Where it is not known what it holds, this says nothing.
pub record GetsBeginning (old new : Option (List ℕ)) (bytes : List ℕ) : Type 0 where
  pub begun : List ℕ
  pub left : List ℕ
  pub whole : bytes ≡ begun ++ left
  pub written : Appends old new begun

-- these are characters of one line: none of them is a control character
abbrev pub IsInLine : List ℕ → Type 0
IsInLine = All (λ c. is_control c ≡ false)

-- a line in UTF-8, with its end
pub record IsLine (line : List ℕ) : Type 0 where
  pub chars : List ℕ
  pub visible : IsInLine chars
  pub ended : line ≡ encode_utf8_all chars ++ 10 ∷ []

-- a writer got one line
pub record GetsLine (old new : Option (List ℕ)) : Type 0 where
  pub line : List ℕ
  pub one : IsLine line
  pub written : Appends old new line

-- a writer got one line, or a beginning of it
pub record BeginsLine (old new : Option (List ℕ)) : Type 0 where
  pub line : List ℕ
  pub one : IsLine line
  pub begun : GetsBeginning old new line
