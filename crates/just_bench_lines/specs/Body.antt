-- The lines of bodies.
use Rattle.std.specs.Prelude.{zero, suc, ℕ, ◌<◌, ◌≤◌, ◌+◌, ◌-◌, ◌==◌, ◌&&◌, not, Bool, false, if◌then◌else◌, List, [], ◌∷◌, map, length, drop, Option, Some, None}
use Rattle.std.specs.List.{flat_map, prefix_len}
use Rattle.std.specs.Option.{option_map}
use Rattle.std.specs.Str.{IsCharBoundary}
use Rattle.just_ast_expressions.specs.declared.expression.Expression.{Expression}
use Rattle.just_ast_definitions.specs.declared.line.Fragment.{Fragment}
use Rattle.just_ast_definitions.specs.declared.line.Fragment.TheVariants as fragment
use Rattle.just_bench_expressions.specs.declared.lexer.Lexeme.{Lexeme}
use Rattle.just_bench_expressions.specs.declared.lines.TextLine.{TextLine}
use Rattle.just_bench_expressions.specs.Features.{list_features}
use Rattle.just_bench_expressions.specs.Lexemes.{is_blank, lexemes, lexeme_place}
use Rattle.just_bench_lines.specs.declared.body.BodyLine.{BodyLine}
use Rattle.just_bench_lines.specs.declared.body.Part.{Part}
use Rattle.just_bench_lines.specs.Definitions.{whole_expression}

-- how many blanks and tabs begin a line
abbrev pub indent : TextLine → ℕ
indent line = prefix_len is_blank line.text

-- how many bytes stand before the first two that are this one
abbrev pub twice_at : ℕ → List ℕ → Option ℕ
twice_at byte [] = None
twice_at byte (b ∷ []) = None
twice_at byte (b ∷ c ∷ rest) = if b == byte && c == byte then Some 0 else option_map suc (twice_at byte (c ∷ rest))

-- after a byte that begins or ends a quoted text, or does not
abbrev pub in_quotes : Bool → ℕ → Bool
in_quotes quoted b = if b == 39 then not quoted else quoted

-- `}` is at the front
abbrev pub closes : List ℕ → Bool
closes [] = false
closes (b ∷ rest) = b == 125

-- `}}` is at the front
abbrev pub closes_twice : List ℕ → Bool
closes_twice [] = false
closes_twice (b ∷ rest) = b == 125 && closes rest

-- how many bytes stand before the first `}}` that stands in no quoted text
abbrev pub close_from : Bool → List ℕ → Option ℕ
close_from quoted [] = None
close_from quoted (b ∷ rest) =
    if not (in_quotes quoted b) && closes_twice (b ∷ rest) then Some 0
    else option_map suc (close_from (in_quotes quoted b) rest)

abbrev pub close_at : List ℕ → Option ℕ
close_at = close_from false

-- a text from one column to another
abbrev pub text_part : List ℕ → List ℕ → TextLine → ℕ → ℕ → Fragment
text_part path text line start end = fragment.Text (lexeme_place path text line start (end - start))

abbrev pub text_part_at : List ℕ → List ℕ → TextLine → ℕ → ℕ → Part
text_part_at path text line start end = record { fragment = text_part path text line start end; lists = []; end = end }

-- an interpolation of this expression, whose last lexeme stands before a column
abbrev pub interpolated : List Lexeme → ℕ → Option Expression → Option Part
interpolated all end None = None
interpolated all end (Some it) = Some (record { fragment = fragment.Interpolation it; lists = list_features all; end = end + 2 })

abbrev pub interpolation_of : ℕ → Option (List Lexeme) → Option Part
interpolation_of end None = None
interpolation_of end (Some all) = interpolated all end (whole_expression all 0)

abbrev pub interpolation : List ℕ → List ℕ → TextLine → ℕ → ℕ → Option Part
interpolation path text line start end = interpolation_of end (lexemes path text line start end)

abbrev pub closed : List ℕ → List ℕ → TextLine → ℕ → Option ℕ → Option Part
closed path text line inner None = None
closed path text line inner (Some size) = interpolation path text line inner (inner + size)

abbrev pub interpolation_at : List ℕ → List ℕ → TextLine → ℕ → Option Part
interpolation_at path text line start = closed path text line (start + 2) (close_at (drop (start + 2) line.text))

-- a part of a line: an interpolation where `{{` is at the front, else the text before the next one
abbrev pub part_by : List ℕ → List ℕ → TextLine → ℕ → Option ℕ → Option Part
part_by path text line start None = Some (text_part_at path text line start (length line.text))
part_by path text line start (Some zero) = interpolation_at path text line start
part_by path text line start (Some (suc n)) = Some (text_part_at path text line start (start + suc n))

unfoldable pub part : List ℕ → List ℕ → TextLine → ℕ → Option Part
part path text line start = part_by path text line start (twice_at 123 (drop start line.text))

-- a part before others, which begin after the bytes that it takes
abbrev pub before_others : ℕ → Option Part → (ℕ → Option (List Part)) → Option (List Part)
before_others at None others = None
before_others at (Some found) others = option_map (λ more. found ∷ more) (others (found.end - (at + 1)))

-- the parts of a line, where so many bytes at the front belong to the part before
abbrev pub parts_from : (ℕ → Option Part) → ℕ → ℕ → List ℕ → Option (List Part)
parts_from one at skip [] = Some []
parts_from one at (suc skip) (b ∷ rest) = parts_from one (at + 1) skip rest
parts_from one at zero (b ∷ rest) = before_others at (one at) (λ skip. parts_from one (at + 1) skip rest)

abbrev pub line_of_parts : ℕ → List Part → BodyLine
line_of_parts number parts = record {
  line = record { number = number; fragments = map (λ (p : Part). p.fragment) parts };
  lists = flat_map (λ (p : Part). p.lists) parts;
}

-- a line of a body from a column on
unfoldable pub body_line : List ℕ → List ℕ → TextLine → ℕ → Option BodyLine
body_line path text line start = option_map (line_of_parts line.number) (parts_from (part path text line) start 0 (drop start line.text))

-- for the private functions: a part goes on from a column, and no character is cut where it ends
pub record EndsAt (text : List ℕ) (line : TextLine) (start end : ℕ) : Type 0 where
  pub onward : start < end
  pub within : end ≤ length line.text
  pub ends : IsCharBoundary text (line.offset + end)
