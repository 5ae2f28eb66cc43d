-- Where reading of a line of a body stops.
use Rattle.std.specs.Prelude.{zero, suc, ℕ, ◌+◌, ◌-◌, List, [], ◌∷◌, drop, length, Option, Some, None}
use Rattle.just_names.specs.Token.{Place}
use Rattle.just_names.specs.Texts.{Text}
use Rattle.just_bench_expressions.specs.declared.lines.TextLine.{TextLine}
use Rattle.just_bench_expressions.specs.Lexemes.{lexed_to}
use Rattle.just_bench_lines.specs.declared.body.Part.{Part}
use Rattle.just_bench_lines.specs.Body.{close_at, part}
use Rattle.just_bench_stops.specs.Definitions.{whole_end}
use Rattle.just_bench_stops.specs.Stops.{stop_place}
use Rattle.just_bench_stops.specs.Tokens.{lexemes_between, rest_of, told_at}

-- a column, where no part begins there, else what follows the part
abbrev pub or_later : ℕ → Option Part → (ℕ → Option ℕ) → Option ℕ
or_later at None others = Some at
or_later at (Some found) others = others (found.end - (at + 1))

-- the column of the first part that is none, where so many bytes at the front belong to the part before
abbrev pub bad_from : (ℕ → Option Part) → ℕ → ℕ → List ℕ → Option ℕ
bad_from one at skip [] = None
bad_from one at (suc skip) (b ∷ rest) = bad_from one (at + 1) skip rest
bad_from one at zero (b ∷ rest) = or_later at (one at) (λ skip. bad_from one (at + 1) skip rest)

-- that of a line from a column on: an interpolation that no `}}` ends, or in which no expression stands
unfoldable pub bad_part : Text → Text → TextLine → ℕ → Option ℕ
bad_part path text line start = bad_from (part path text line) start 0 (drop start line.text)

-- where what stands in braces ends: before `}}`, or with the line where none follows
abbrev pub end_or_line : TextLine → ℕ → Option ℕ → ℕ
end_or_line line inner None = length line.text
end_or_line line inner (Some size) = inner + size

abbrev pub inner_end : TextLine → ℕ → ℕ
inner_end line inner = end_or_line line inner (close_at (drop inner line.text))

-- what stands where reading of an expression stops that is to go from one column to another: of its lexemes, before the first part that is none
unfoldable pub expression_stop : Text → Text → TextLine → ℕ → ℕ → Place
expression_stop path text line start end =
    told_at path text line start (lexed_to line start end) (stop_place (whole_end (lexemes_between path text line start (lexed_to line start end)) 0))

-- the same of an interpolation, behind the braces that begin it
abbrev pub interpolation_stop : Text → Text → TextLine → ℕ → Place
interpolation_stop path text line start = expression_stop path text line (start + 2) (inner_end line (start + 2))

-- in such a part, or nothing at the end of a line that has none
abbrev pub stop_in : Text → Text → TextLine → Option ℕ → Place
stop_in path text line None = rest_of path text line (length line.text)
stop_in path text line (Some at) = interpolation_stop path text line at

-- where a line of a body is told that is none, from a column on: what stands where reading of its first interpolation stops that is none
unfoldable pub body_stop : Text → Text → TextLine → ℕ → Place
body_stop path text line start = stop_in path text line (bad_part path text line start)
