-- The lines of files, settings, variables, functions and aliases.
use Rattle.std.specs.Prelude.{ℕ, ◌+◌, ◌==◌, Bool, true, false, ◌||◌, if◌then◌else◌, List, length, codes, is_some, Option, Some, None, Result, Ok, Err}
use Rattle.std.specs.Str.{bytes_eq}
use Rattle.just_names.specs.Token.{lexeme}
use Rattle.just_names.specs.declared.name.Name.{Name}
use Rattle.just_bench_expressions.specs.declared.lexer.Lexeme.{Lexeme}
use Rattle.just_bench_expressions.specs.Expressions.{expression_end}
use Rattle.just_bench_lines.specs.Definitions.{setting}
use Rattle.just_bench_lines.specs.Meaning.{after_word, is_optional}
use Rattle.just_bench_lines.specs.Places.{read_name_at, stands, word_at, is_assign, is_bracket_close, is_bracket_open, is_name_kind, is_paren_close, is_paren_open, is_quoted}
use Rattle.just_bench_stops.specs.Marks.{goes_on_from, mark_end, word_end, line_end, path_end}
use Rattle.just_bench_stops.specs.Parts.{parts_end, part_end}
use Rattle.just_bench_stops.specs.declared.parts.Part.TheVariants as part_kind

-- `import 'P'`, or with `?`
abbrev pub import_end : List Lexeme → Result ℕ ℕ
import_end all = goes_on_from (word_end (codes "import") all 0) (λ _. goes_on_from (mark_end is_quoted all (after_word (is_optional all))) (line_end all))

-- `mod NAME`, or with a path or `?`
abbrev pub module_end : List Lexeme → Result ℕ ℕ
module_end all =
    goes_on_from (word_end (codes "mod") all 0) (λ _. goes_on_from (mark_end is_name_kind all (after_word (is_optional all))) (λ at.
    line_end all (if stands is_quoted all at then at + 1 else at)))

-- an expression that ends the line
abbrev pub whole_end : List Lexeme → ℕ → Result ℕ ℕ
whole_end all at = goes_on_from (expression_end true all at) (line_end all)

-- the program that a setting is set to: a list that is not empty, and no sum
abbrev pub program_end : List Lexeme → Result ℕ ℕ
program_end all =
    goes_on_from (mark_end is_assign all 2) (λ at. goes_on_from (mark_end is_bracket_open all at) (λ inner.
    if stands is_bracket_close all inner then Err inner else goes_on_from (expression_end false all at) (line_end all)))

-- `true` or `false`
abbrev pub truth_end : List Lexeme → ℕ → Result ℕ ℕ
truth_end all at = if word_at (codes "true") all at then Ok (at + 1) else word_end (codes "false") all at

-- what a setting is set to that is on or off, or nothing
abbrev pub switch_end : List Lexeme → Result ℕ ℕ
switch_end all = if length all == 2 then Ok 2 else goes_on_from (mark_end is_assign all 2) (λ at. goes_on_from (truth_end all at) (line_end all))

-- a setting that names a program
abbrev pub names_program : List ℕ → Bool
names_program name = bytes_eq name (codes "shell") || bytes_eq name (codes "script-interpreter")

-- a setting of this name, at whose place reading stops where there is none of it
abbrev pub setting_end : List Lexeme → List ℕ → Result ℕ ℕ
setting_end all name = if names_program name then program_end all else (if is_some (setting name true) then switch_end all else Err 1)

abbrev pub named_setting_end : List Lexeme → Option Name → Result ℕ ℕ
named_setting_end all None = Err 1
named_setting_end all (Some name) = setting_end all (lexeme name.token)

-- `set NAME` or `set NAME := ..`
abbrev pub set_end : List Lexeme → Result ℕ ℕ
set_end all = goes_on_from (word_end (codes "set") all 0) (λ _. named_setting_end all (read_name_at all 1))

-- `unexport NAME`
abbrev pub unexport_end : List Lexeme → Result ℕ ℕ
unexport_end all = goes_on_from (word_end (codes "unexport") all 0) (λ at. goes_on_from (mark_end is_name_kind all at) (line_end all))

-- NAME := E, from a place on
abbrev pub assignment_end : List Lexeme → ℕ → Result ℕ ℕ
assignment_end all at = goes_on_from (mark_end is_name_kind all at) (λ at. goes_on_from (mark_end is_assign all at) (whole_end all))

-- one with a word before it
abbrev pub prefixed_end : List ℕ → List Lexeme → Result ℕ ℕ
prefixed_end it all = goes_on_from (word_end it all 0) (assignment_end all)

-- NAME(A, ..) := E
abbrev pub function_end : List Lexeme → Result ℕ ℕ
function_end all =
    goes_on_from (mark_end is_name_kind all 0) (λ at. goes_on_from (mark_end is_paren_open all at) (λ at.
    goes_on_from (parts_end false is_paren_close (part_end part_kind.FunctionParameter) all at) (λ close.
    goes_on_from (mark_end is_assign all (close + 1)) (whole_end all))))

-- `alias NAME := PATH`
abbrev pub alias_end : List Lexeme → Result ℕ ℕ
alias_end all =
    goes_on_from (word_end (codes "alias") all 0) (λ at. goes_on_from (mark_end is_name_kind all at) (λ at.
    goes_on_from (mark_end is_assign all at) (λ at. goes_on_from (path_end all at) (line_end all))))
