-- The lexemes of a part of a line.
use Rattle.std.specs.Prelude.{zero, suc, ◌≡◌, ℕ, ◌<◌, ◌≤◌, slice_index, slice_range, ◌+◌, ◌-◌, ◌==◌, ◌&&◌, Bool, true, false, ◌||◌, if◌then◌else◌, List, [], ◌∷◌, ◌++◌, length, take, drop, Option, Some, None}
use Rattle.std.specs.Option.{option_map}
use Rattle.std.specs.List.{All, prefix_len, position}
use Rattle.just_names.specs.Identifier.{is_identifier_start, is_identifier_continue}
use Rattle.just_names.specs.Token.{Place, lexeme}
use Rattle.just_bench_expressions.specs.declared.lines.TextLine.{TextLine}
use Rattle.just_bench_expressions.specs.declared.lexer.Kind.{Kind}
use Rattle.just_bench_expressions.specs.declared.lexer.Kind.TheVariants as kind
use Rattle.just_bench_expressions.specs.declared.lexer.Lexeme.{Lexeme}

-- a blank or a tab
abbrev pub is_blank : ℕ → Bool
is_blank b = b == 32 || b == 9

-- the byte `'`
abbrev pub is_quote : ℕ → Bool
is_quote b = b == 39

-- a text between two quotes, without a quote in it
pub record IsQuoted (text : List ℕ) : Type 0 where
  pub inside : List ℕ
  pub whole : text ≡ 39 ∷ inside ++ 39 ∷ []
  pub clear : All (λ b. is_quote b ≡ false) inside

-- a quoted text, from the bytes after its first quote
abbrev pub quoted : List ℕ → Option (Kind × ℕ)
quoted rest = option_map {U = Kind × ℕ} (λ inside. (kind.Quoted, inside + 2)) (position is_quote rest)

-- `:=` or `&&`, from its first byte and what follows
abbrev pub double_mark : ℕ → List ℕ → Option Kind
double_mark b [] = None
double_mark b (c ∷ rest) = if b == 58 && c == 61 then Some kind.Assign else (if b == 38 && c == 38 then Some kind.And else None)

-- a mark of one byte
abbrev pub single_mark : ℕ → Option Kind
single_mark b =
    if b == 58 then Some kind.Colon
    else (if b == 61 then Some kind.Equals
    else (if b == 63 then Some kind.Question
    else (if b == 42 then Some kind.Star
    else (if b == 43 then Some kind.Plus
    else (if b == 64 then Some kind.At
    else (if b == 44 then Some kind.Comma
    else (if b == 40 then Some kind.ParenOpen
    else (if b == 41 then Some kind.ParenClose
    else (if b == 91 then Some kind.BracketOpen
    else (if b == 93 then Some kind.BracketClose
    else None))))))))))

-- a mark and its length: that of two bytes if there is one
abbrev pub mark : Option Kind → Option Kind → Option (Kind × ℕ)
mark (Some double) single = Some (double, 2)
mark None None = None
mark None (Some single) = Some (single, 1)

-- the kind and length of the lexeme at the front
abbrev pub first : List ℕ → Option (Kind × ℕ)
first [] = None
first (b ∷ rest) =
    if is_identifier_start b then Some (kind.Name, prefix_len is_identifier_continue rest + 1)
    else (if is_quote b then quoted rest
    else mark (double_mark b rest) (single_mark b))

-- a lexeme of this size is there, and begins and ends with an ASCII character
pub record TakesLexeme (bytes : List ℕ) (size : ℕ) : Type 0 where
  pub some : 0 < size
  pub within : size ≤ length bytes
  pub begins : slice_index bytes 0 < 128
  pub ends : slice_index bytes (size - 1) < 128

-- a part of a line as a part of the text
abbrev pub lexeme_place : List ℕ → List ℕ → TextLine → ℕ → ℕ → Place
lexeme_place path text line at size = record { line = line.number; column = at; offset = line.offset + at; length = size; path = path; src = text }

-- a lexeme before those that follow
abbrev pub before : (ℕ → ℕ → Place) → ℕ → Option (Kind × ℕ) → (ℕ → Option (List Lexeme)) → Option (List Lexeme)
before token at None others = None
before token at (Some found) others = option_map (λ lexemes. record { kind = found.0; token = token at found.1 } ∷ lexemes) (others (found.1 - 1))

-- the lexemes of bytes that stand at this column, where so many bytes at the front belong to the lexeme before
abbrev pub lexemes_from : (ℕ → ℕ → Place) → ℕ → ℕ → List ℕ → Option (List Lexeme)
lexemes_from token at skip [] = Some []
lexemes_from token at (suc skip) (b ∷ rest) = lexemes_from token (at + 1) skip rest
lexemes_from token at zero (b ∷ rest) =
    if is_blank b then lexemes_from token (at + 1) 0 rest
    else before token at (first (b ∷ rest)) (λ more. lexemes_from token (at + 1) more rest)

-- the lexemes of a line from one column to another, none where a part of it is no lexeme
unfoldable pub lexemes : List ℕ → List ℕ → TextLine → ℕ → ℕ → Option (List Lexeme)
lexemes path text line start end = lexemes_from (lexeme_place path text line) start 0 (drop start (take end line.text))

-- how many bytes lexemes take, and blanks and tabs between them, where so many bytes at the front belong to the lexeme before
abbrev pub past : Option (Kind × ℕ) → (ℕ → ℕ) → ℕ
past None others = 0
past (Some found) others = others (found.1 - 1) + 1

abbrev pub lexed_from : ℕ → List ℕ → ℕ
lexed_from skip [] = 0
lexed_from (suc skip) (b ∷ rest) = lexed_from skip rest + 1
lexed_from zero (b ∷ rest) = if is_blank b then lexed_from 0 rest + 1 else past (first (b ∷ rest)) (λ more. lexed_from more rest)

-- the column up to which the lexemes of a line go from one column to another: before the first byte with which no lexeme begins
unfoldable pub lexed_to : TextLine → ℕ → ℕ → ℕ
lexed_to line start end = start + lexed_from 0 (drop start (take end line.text))

-- a quoted text
abbrev pub is_quoted : Kind → Bool
is_quoted kind.Quoted = true
is_quoted _ = false

-- a lexeme that is called a quoted text has its quotes
abbrev pub HasQuotes : Lexeme → Type 0
HasQuotes l = is_quoted l.kind ≡ true → IsQuoted (lexeme l.token)

-- the text between the quotes of a quoted text
abbrev pub between_quotes : List ℕ → List ℕ
between_quotes text = slice_range text 1 (length text - 1)
