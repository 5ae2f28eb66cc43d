-- The lines of a text, and where each begins.
use Rattle.std.specs.Prelude.{◌≡◌, ℕ, ◌+◌, ◌≤◌, ◌==◌, Bool, List, [], ◌∷◌, length, slice_range}
use Rattle.std.specs.List.{slice_split}
use Rattle.std.specs.Str.{IsCharBoundary}
use Rattle.just_names.specs.Token.{Place}
use Rattle.just_bench_expressions.specs.declared.lines.TextLine.{TextLine}

-- the byte that ends a line
abbrev pub is_newline : ℕ → Bool
is_newline b = b == 10

-- parts as lines, the first with this number and at this offset; between two lines stands one byte
abbrev pub lines_from : ℕ → ℕ → List (List ℕ) → List TextLine
lines_from number offset [] = []
lines_from number offset (part ∷ rest) = record { number = number; offset = offset; text = part } ∷ lines_from (number + 1) (offset + length part + 1) rest

-- the lines of a text
abbrev pub lines_of : List ℕ → List TextLine
lines_of text = lines_from 0 0 (slice_split is_newline text)

-- the line stands in the text where it says, and no character is cut by its ends
pub record IsLineOf (text : List ℕ) (line : TextLine) : Type 0 where
  pub within : line.offset + length line.text ≤ length text
  pub same : slice_range text line.offset (line.offset + length line.text) ≡ line.text
  pub starts : IsCharBoundary text line.offset
  pub ends : IsCharBoundary text (line.offset + length line.text)

-- the whole line as a part of the text of the file under this path
abbrev pub line_place : List ℕ → List ℕ → TextLine → Place
line_place path text line = record { line = line.number; column = 0; offset = line.offset; length = length line.text; path = path; src = text }
