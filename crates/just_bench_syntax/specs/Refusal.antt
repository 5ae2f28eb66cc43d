-- What a refusal of the plain grammar says.
use Rattle.std.specs.Prelude.{◌≡◌, ◌<◌, ◌≤◌, ℕ, ◌+◌, ◌^◌, List, length, Some, Err}
use Rattle.std.specs.List.{slice_get}
use Rattle.just_names.specs.Token.{Place}
use Rattle.just_errors.specs.declared.compile_error.CompileError.{CompileError}
use Rattle.just_errors.specs.declared.compile_error.CompileErrorKind.TheVariants.{Syntax}
use Rattle.just_errors.specs.declared.error.Error.{Error}
use Rattle.just_errors.specs.declared.error.Error.TheVariants as error
use Rattle.just_bench_expressions.specs.declared.lines.TextLine.{TextLine}
use Rattle.just_bench_expressions.specs.Lexemes.{lexeme_place}
use Rattle.just_bench_expressions.specs.Lines.{lines_of}
use Rattle.just_bench_syntax.specs.Items.{items_in_text}

-- a part of a line of the text
pub record IsInLine (path text : List ℕ) (token : Place) : Type 0 where
  pub line : TextLine
  pub stands : slice_get (lines_of text) token.line ≡ Some line
  pub within : token.column + token.length ≤ length line.text
  pub is : token ≡ lexeme_place path text line token.column token.length

-- the token is where the text is told not to follow the grammar
pub record IsBadPlace (path text : List ℕ) (e : CompileError) : Type 0 where
  pub kind : e.kind ≡ Syntax
  pub told : items_in_text path text ≡ Err e.token
  pub place : IsInLine path text e.token

-- why the items of a text could not be made, where so many numbers are wanted, those that were given before among them
abbrev pub RefusesLine : List ℕ → List ℕ → Error → ℕ → Type 0
RefusesLine path text (error.Compile e) wanted = IsBadPlace path text e
RefusesLine path text error.Exhausted wanted = 2 ^ 64 < wanted
RefusesLine path text error.Memory wanted = Unit {0}
RefusesLine path text (error.Load e) wanted = ⊥
RefusesLine path text (error.Invocation e) wanted = ⊥
RefusesLine path text (error.Run e) wanted = ⊥
