-- What stands at a place among lexemes.
use Rattle.std.specs.Prelude.{ℕ, ◌+◌, ◌==◌, ◌<◌, ◌≤◌, length, Bool, true, false, if◌then◌else◌, List, Option, Some, None}
use Rattle.std.specs.List.{slice_get}
use Rattle.std.specs.Option.{option_map}
use Rattle.std.specs.Str.{bytes_eq}
use Rattle.just_names.specs.Token.{Place, lexeme}
use Rattle.just_names.specs.declared.name.Name.{Name}
use Rattle.just_bench_expressions.specs.declared.lexer.Kind.{Kind}
use Rattle.just_bench_expressions.specs.declared.lexer.Kind.TheVariants as kind
use Rattle.just_bench_expressions.specs.declared.lexer.Lexeme.{Lexeme}
use Rattle.just_bench_expressions.specs.Lexemes.{between_quotes}
use Rattle.just_ast_expressions.specs.declared.string_literal.StringLiteral.{StringLiteral}

-- an identifier, and a quoted text
abbrev pub is_name_kind : Kind → Bool
is_name_kind kind.Name = true
is_name_kind _ = false

abbrev pub is_quoted : Kind → Bool
is_quoted kind.Quoted = true
is_quoted _ = false

-- the marks
abbrev pub is_colon : Kind → Bool
is_colon kind.Colon = true
is_colon _ = false

abbrev pub is_assign : Kind → Bool
is_assign kind.Assign = true
is_assign _ = false

abbrev pub is_equals : Kind → Bool
is_equals kind.Equals = true
is_equals _ = false

abbrev pub is_and : Kind → Bool
is_and kind.And = true
is_and _ = false

abbrev pub is_question : Kind → Bool
is_question kind.Question = true
is_question _ = false

abbrev pub is_star : Kind → Bool
is_star kind.Star = true
is_star _ = false

abbrev pub is_plus : Kind → Bool
is_plus kind.Plus = true
is_plus _ = false

abbrev pub is_at_sign : Kind → Bool
is_at_sign kind.At = true
is_at_sign _ = false

abbrev pub is_comma : Kind → Bool
is_comma kind.Comma = true
is_comma _ = false

abbrev pub is_paren_open : Kind → Bool
is_paren_open kind.ParenOpen = true
is_paren_open _ = false

abbrev pub is_paren_close : Kind → Bool
is_paren_close kind.ParenClose = true
is_paren_close _ = false

abbrev pub is_bracket_open : Kind → Bool
is_bracket_open kind.BracketOpen = true
is_bracket_open _ = false

abbrev pub is_bracket_close : Kind → Bool
is_bracket_close kind.BracketClose = true
is_bracket_close _ = false

-- whether the second kind is the first
abbrev pub is_mark : Kind → Kind → Bool
is_mark kind.Name = is_name_kind
is_mark kind.Quoted = is_quoted
is_mark kind.Colon = is_colon
is_mark kind.Assign = is_assign
is_mark kind.Equals = is_equals
is_mark kind.And = is_and
is_mark kind.Question = is_question
is_mark kind.Star = is_star
is_mark kind.Plus = is_plus
is_mark kind.At = is_at_sign
is_mark kind.Comma = is_comma
is_mark kind.ParenOpen = is_paren_open
is_mark kind.ParenClose = is_paren_close
is_mark kind.BracketOpen = is_bracket_open
is_mark kind.BracketClose = is_bracket_close

-- the second lexeme stands right after the first
abbrev pub adjoins : Lexeme → Lexeme → Bool
adjoins first second = second.token.offset == first.token.offset + first.token.length

-- a lexeme of such a kind
abbrev pub stands_there : (Kind → Bool) → Option Lexeme → Bool
stands_there is None = false
stands_there is (Some l) = is l.kind

abbrev pub stands : (Kind → Bool) → List Lexeme → ℕ → Bool
stands is all at = stands_there is (slice_get all at)

-- the name at a place
abbrev pub name_there : Option Lexeme → Option Name
name_there None = None
name_there (Some l) = if is_name_kind l.kind then Some (record { token = l.token }) else None

abbrev pub read_name_at : List Lexeme → ℕ → Option Name
read_name_at all at = name_there (slice_get all at)

-- the quoted text at a place
abbrev pub quoted_there : Option Lexeme → Option Place
quoted_there None = None
quoted_there (Some l) = if is_quoted l.kind then Some l.token else None

abbrev pub quoted_at : List Lexeme → ℕ → Option Place
quoted_at all at = quoted_there (slice_get all at)

-- the name at a place is this word
abbrev pub is_word : List ℕ → Option Name → Bool
is_word word None = false
is_word word (Some name) = bytes_eq (lexeme name.token) word

abbrev pub word_at : List ℕ → List Lexeme → ℕ → Bool
word_at word all at = is_word word (read_name_at all at)

-- a quoted text
abbrev pub literal : Place → StringLiteral
literal token = record { cooked = between_quotes (lexeme token); token = token }

abbrev pub literal_at : List Lexeme → ℕ → Option StringLiteral
literal_at all at = option_map literal (quoted_at all at)

-- what was read ends after the place where it begins, and within the line
pub record GoesOn (all : List Lexeme) (at end : ℕ) : Type 0 where
  pub onward : at < end
  pub within : end ≤ length all
