-- A line of a body in pieces: its texts as they stand, and its interpolations between their braces.
use Rattle.std.specs.Prelude.{◌≡◌, ◌≢◌, ℕ, ◌+◌, codes, List, [], ◌∷◌, ◌++◌, length, drop, Some}
use Rattle.std.specs.List.{flat_map}
use Rattle.just_names.specs.Texts.{Text}
use Rattle.just_names.specs.Token.{lexeme}
use Rattle.just_ast_expressions.specs.declared.expression.Expression.{Expression}
use Rattle.just_ast_definitions.specs.declared.line.Fragment.{Fragment}
use Rattle.just_ast_definitions.specs.declared.line.Fragment.TheVariants as fragment
use Rattle.just_bench_expressions.specs.declared.lexer.Lexeme.{Lexeme}
use Rattle.just_bench_expressions.specs.declared.lines.TextLine.{TextLine}
use Rattle.just_bench_expressions.specs.Lexemes.{lexemes}
use Rattle.just_bench_lines.specs.Definitions.{whole_expression}

-- what stands from a column on is this long, and reads as this expression
abbrev pub ReadsAs : Text → Text → TextLine → ℕ → ℕ → Expression → Type 0
ReadsAs path text line at size e = (all : List Lexeme) × (lexemes path text line at (at + size) ≡ Some all) × (whole_expression all 0 ≡ Some e)

-- a text in which no `{{` stands
abbrev pub HasNoOpening : Text → Type 0
HasNoOpening piece = (before after : Text) → piece ≢ before ++ codes "{{" ++ after

-- the piece of a line that a fragment is, from a column on
abbrev pub IsPiece : Text → Text → TextLine → ℕ → Fragment → Text → Type 0
IsPiece path text line at (fragment.Text token) piece = (token.column ≡ at) × (lexeme token ≡ piece) × HasNoOpening piece
IsPiece path text line at (fragment.Interpolation e) piece =
    (inner : Text) × (codes "{{" ++ inner ++ codes "}}" ≡ piece) × ReadsAs path text line (at + 2) (length inner) e

-- the pieces of fragments, one for each, the first from a column on
abbrev pub ArePieces : Text → Text → TextLine → ℕ → List Fragment → List Text → Type 0
ArePieces path text line at [] [] = Unit
ArePieces path text line at (f ∷ fragments) (piece ∷ pieces) =
    IsPiece path text line at f piece × ArePieces path text line (at + length piece) fragments pieces
ArePieces path text line at _ _ = ⊥

-- fragments are what stands in a line from a column on
abbrev pub AreFrom : Text → Text → TextLine → ℕ → List Fragment → Type 0
AreFrom path text line at fragments =
    (pieces : List Text) × ArePieces path text line at fragments pieces × (flat_map (λ piece. piece) pieces ≡ drop at line.text)
