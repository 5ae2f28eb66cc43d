-- What stands at a place of a line, as a token.
use Rattle.std.specs.Prelude.{ℕ, ◌-◌, List, [], length, Option, Some, None}
use Rattle.std.specs.List.{slice_get}
use Rattle.just_names.specs.Token.{Place}
use Rattle.just_names.specs.Texts.{Text}
use Rattle.just_bench_expressions.specs.declared.lexer.Lexeme.{Lexeme}
use Rattle.just_bench_expressions.specs.declared.lines.TextLine.{TextLine}
use Rattle.just_bench_expressions.specs.Lexemes.{lexemes, lexeme_place}

-- the lexemes from one column to another, none where a part of that is no lexeme
abbrev pub or_nothing : Option (List Lexeme) → List Lexeme
or_nothing None = []
or_nothing (Some all) = all

abbrev pub lexemes_between : Text → Text → TextLine → ℕ → ℕ → List Lexeme
lexemes_between path text line start end = or_nothing (lexemes path text line start end)

-- a line from a column on
abbrev pub rest_of : Text → Text → TextLine → ℕ → Place
rest_of path text line at = lexeme_place path text line at (length line.text - at)

-- a lexeme, or the rest of the line behind them all
abbrev pub or_rest : Place → Option Lexeme → Place
or_rest rest None = rest
or_rest rest (Some l) = l.token

-- what stands at a place among the lexemes from one column to another
abbrev pub told_at : Text → Text → TextLine → ℕ → ℕ → ℕ → Place
told_at path text line start end at = or_rest (rest_of path text line end) (slice_get (lexemes_between path text line start end) at)
