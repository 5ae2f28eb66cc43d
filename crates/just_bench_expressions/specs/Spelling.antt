-- How lexemes are spelled one after another.
use Rattle.std.specs.Prelude.{ℕ, ◌≡◌, ◌<◌, ◌+◌, Bool, true, false, ◌||◌, if◌then◌else◌, List, [], ◌∷◌, ◌++◌, length, take, slice_index, Option, None, Some}
use Rattle.std.specs.List.{All}
use Rattle.std.specs.Str.{IsUtf8}
use Rattle.just_names.specs.Token.{lexeme}
use Rattle.just_bench_expressions.specs.declared.lexer.Kind.{Kind}
use Rattle.just_bench_expressions.specs.declared.lexer.Kind.TheVariants as kind
use Rattle.just_bench_expressions.specs.declared.lexer.Lexeme.{Lexeme}
use Rattle.just_bench_expressions.specs.Lexemes.{HasQuotes}

-- `,`
abbrev pub is_comma : Kind → Bool
is_comma kind.Comma = true
is_comma _ = false

-- `+`
abbrev pub is_plus : Kind → Bool
is_plus kind.Plus = true
is_plus _ = false

-- what stands before a lexeme: a blank after a comma and on each side of `+`, nothing before the first lexeme
abbrev pub gap : Option Kind → Kind → List ℕ
gap None next = []
gap (Some before) next = if (is_comma before || is_plus before) || is_plus next then 32 ∷ [] else []

-- lexemes after a lexeme of this kind, or the first
abbrev pub spelled_after : Option Kind → List Lexeme → List ℕ
spelled_after before [] = []
spelled_after before (l ∷ rest) = gap before l.kind ++ lexeme l.token ++ spelled_after (Some l.kind) rest

-- lexemes one after another
abbrev pub spell : List Lexeme → List ℕ
spell = spelled_after None

-- the lexeme is text
abbrev pub IsText : Lexeme → Type 0
IsText l = IsUtf8 (lexeme l.token)

-- the text is the spelling of the lexemes, and the numbers say how long it is up to the end of each
pub record IsSpelling (lexemes : List Lexeme) (text : List ℕ) (ends : List ℕ) : Type 0 where
  pub spelled : text ≡ spell lexemes
  pub counted : length ends ≡ length lexemes
  pub each : (k : ℕ) → k < length lexemes → slice_index ends k ≡ length (spell (take (k + 1) lexemes))
  pub texts : All IsText lexemes
  pub quoted : All HasQuotes lexemes
