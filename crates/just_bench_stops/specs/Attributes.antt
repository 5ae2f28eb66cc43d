-- The lines of attributes.
use Rattle.std.specs.Prelude.{◌≡◌, zero, suc, ℕ, ◌+◌, ◌-◌, true, false, not, ◌&&◌, if◌then◌else◌, List, [], ◌∷◌, drop, codes, is_some, Option, Some, None, Result, Ok, Err}
use Rattle.std.specs.Str.{bytes_eq}
use Rattle.just_names.specs.Token.{lexeme}
use Rattle.just_names.specs.declared.name.Name.{Name}
use Rattle.just_bench_expressions.specs.declared.lexer.Lexeme.{Lexeme}
use Rattle.just_bench_expressions.specs.Expressions.{expression_end}
use Rattle.just_bench_lines.specs.Attributes.{word_alone, char_of}
use Rattle.just_bench_lines.specs.Places.{literal_at, read_name_at, is_bracket_close, is_bracket_open, is_equals, is_paren_close, is_paren_open, is_quoted}
use Rattle.just_bench_stops.specs.Marks.{goes_on_from, mark_end, line_end}
use Rattle.just_bench_stops.specs.Parts.{after_part_end}
use Rattle.just_bench_stops.specs.declared.attributes.Seen.{Seen}
use Rattle.just_bench_stops.specs.declared.halt.Halt.{Halt}
use Rattle.just_bench_stops.specs.declared.halt.Halt.TheVariants as halt

-- the end of an attribute, and the line with it
abbrev pub bracket_end : List Lexeme → ℕ → Result ℕ ℕ
bracket_end all at = goes_on_from (mark_end is_bracket_close all at) (line_end all)

-- the end of what stands in parentheses, and the attribute with it
abbrev pub paren_end : List Lexeme → ℕ → Result ℕ ℕ
paren_end all at = goes_on_from (mark_end is_paren_close all at) (bracket_end all)

-- `=` and a quoted text
abbrev pub value_end : List Lexeme → ℕ → Result ℕ ℕ
value_end all at = goes_on_from (mark_end is_equals all at) (mark_end is_quoted all)

-- `=` and a quoted text of one character
abbrev pub letter_end : List Lexeme → ℕ → Result ℕ ℕ
letter_end all at = goes_on_from (mark_end is_equals all at) (λ at. if is_some (char_of (literal_at all at)) then Ok (at + 1) else Err at)

-- `=` and an expression
abbrev pub pattern_end : List Lexeme → ℕ → Result ℕ ℕ
pattern_end all at = goes_on_from (mark_end is_equals all at) (expression_end true all)

-- what was read, and what was seen with it
abbrev pub with_seen : Seen → Result ℕ ℕ → Result (ℕ × Seen) ℕ
with_seen seen (Err stop) = Err stop
with_seen seen (Ok end) = Ok (end, seen)

-- what an attribute says of how its parameter is given, by its word, each once
abbrev pub property_end_by : List Lexeme → ℕ → Seen → List ℕ → Result (ℕ × Seen) ℕ
property_end_by all at seen it =
    if bytes_eq it (codes "long") && not seen.long then with_seen (record seen { long = true }) (value_end all (at + 1))
    else (if bytes_eq it (codes "short") && not seen.short then with_seen (record seen { short = true }) (letter_end all (at + 1))
    else (if bytes_eq it (codes "flag") && not seen.flag then Ok (at + 1, record seen { flag = true })
    else (if bytes_eq it (codes "pattern") && not seen.pattern then with_seen (record seen { pattern = true }) (pattern_end all (at + 1))
    else Err at)))

abbrev pub property_end_of : List Lexeme → ℕ → Seen → Option Name → Result (ℕ × Seen) ℕ
property_end_of all at seen None = Err at
property_end_of all at seen (Some name) = property_end_by all at seen (lexeme name.token)

-- with what stands between it and the next
abbrev pub with_after : List Lexeme → Result (ℕ × Seen) ℕ → Result (ℕ × Seen) ℕ
with_after all (Err stop) = Err stop
with_after all (Ok found) = with_seen found.1 (after_part_end all found.0)

unfoldable pub property_end : List Lexeme → ℕ → Seen → Result (ℕ × Seen) ℕ
property_end all at seen = with_after all (property_end_of all at seen (read_name_at all at))

-- what follows it
abbrev pub on_seen : Result (ℕ × Seen) ℕ → (ℕ → Seen → Result ℕ ℕ) → Result ℕ ℕ
on_seen (Err at) more = Err at
on_seen (Ok found) more = more found.0 found.1

-- what stands up to the `)`, each at most once, where so many lexemes at the front belong to what was read before
abbrev pub properties_end_from : List Lexeme → ℕ → ℕ → Seen → List Lexeme → Result ℕ ℕ
properties_end_from all at skip seen [] = Err at
properties_end_from all at (suc skip) seen (l ∷ rest) = properties_end_from all (at + 1) skip seen rest
properties_end_from all at zero seen (l ∷ rest) =
    if is_paren_close l.kind then Ok at
    else on_seen (property_end all at seen) (λ end more. properties_end_from all (at + 1) (end - (at + 1)) more rest)

abbrev pub unseen : Seen
unseen = record { long = false; short = false; flag = false; pattern = false }

unfoldable pub properties_end : List Lexeme → ℕ → Result ℕ ℕ
properties_end all start = properties_end_from all start 0 unseen (drop start all)

-- for the private functions: what was read ends there, with what was seen
abbrev pub Sees : Result ℕ Halt → Seen → Result (ℕ × Seen) ℕ → Type 0
Sees (Ok end) seen it = Ok (end, seen) ≡ it
Sees (Err (halt.At at)) seen it = Err at ≡ it
Sees (Err halt.Memory) seen it = Unit {0}

-- what stands in the parentheses of an attribute of a parameter: its name, and how it is given
abbrev pub arg_end : List Lexeme → ℕ → Result ℕ ℕ
arg_end all at = goes_on_from (mark_end is_quoted all at) (λ at. goes_on_from (after_part_end all at) (λ at. goes_on_from (properties_end all at) (paren_end all)))

-- an attribute by its word
abbrev pub attribute_end_by : List Lexeme → List ℕ → Result ℕ ℕ
attribute_end_by all it =
    if is_some (word_alone it) then bracket_end all 2
    else (if bytes_eq it (codes "group") then goes_on_from (mark_end is_paren_open all 2) (λ at. goes_on_from (mark_end is_quoted all at) (paren_end all))
    else (if bytes_eq it (codes "doc") then goes_on_from (mark_end is_paren_open all 2) (λ at. goes_on_from (expression_end true all at) (paren_end all))
    else (if bytes_eq it (codes "arg") then goes_on_from (mark_end is_paren_open all 2) (arg_end all)
    else Err 1)))

abbrev pub attribute_end_of : List Lexeme → Option Name → Result ℕ ℕ
attribute_end_of all None = Err 1
attribute_end_of all (Some name) = attribute_end_by all (lexeme name.token)

-- `[NAME]` or `[NAME(..)]`
unfoldable pub attribute_end : List Lexeme → Result ℕ ℕ
attribute_end all = goes_on_from (mark_end is_bracket_open all 0) (λ _. attribute_end_of all (read_name_at all 1))
