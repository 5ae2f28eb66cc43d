-- What a line says.
use Rattle.std.specs.Prelude.{ℕ, ◌+◌, ◌==◌, Bool, false, if◌then◌else◌, List, [], ◌∷◌, length, drop, codes, Option, Some, None}
use Rattle.std.specs.Option.{option_map}
use Rattle.just_names.specs.declared.name.Name.{Name}
use Rattle.just_ast_expressions.specs.declared.list_use.ListUse.{ListUse}
use Rattle.just_ast_expressions.specs.declared.string_literal.StringLiteral.{StringLiteral}
use Rattle.just_bench_expressions.specs.declared.lexer.Lexeme.{Lexeme}
use Rattle.just_bench_expressions.specs.declared.lines.TextLine.{TextLine}
use Rattle.just_bench_expressions.specs.Features.{list_features}
use Rattle.just_bench_expressions.specs.Lexemes.{is_blank, lexemes}
use Rattle.just_bench_lines.specs.declared.meaning.Declaration.{Declaration}
use Rattle.just_bench_lines.specs.declared.meaning.Meaning.{Meaning}
use Rattle.just_bench_lines.specs.declared.meaning.Meaning.TheVariants as meaning
use Rattle.just_bench_lines.specs.declared.meaning.Said.{Said}
use Rattle.just_bench_lines.specs.declared.meaning.Statement.{Statement}
use Rattle.just_bench_lines.specs.declared.meaning.Statement.TheVariants as statements
use Rattle.just_bench_lines.specs.Alias.{alias_line}
use Rattle.just_bench_lines.specs.Attributes.{attribute}
use Rattle.just_bench_lines.specs.Definitions as definitions
use Rattle.just_bench_lines.specs.Heading.{heading_in_line}
use Rattle.just_bench_lines.specs.Places.{adjoins, literal_at, read_name_at, stands, word_at, is_assign, is_question}

-- `?` stands right after the first word
abbrev pub is_optional : List Lexeme → Bool
is_optional [] = false
is_optional (word ∷ []) = false
is_optional (word ∷ l ∷ rest) = if is_question l.kind then adjoins word l else false

abbrev pub after_word : Bool → ℕ
after_word optional = if optional then 2 else 1

-- `import 'P'`, or with `?`
abbrev pub import_of : List Lexeme → Bool → ℕ → Option StringLiteral → Option Statement
import_of all optional at None = None
import_of all optional at (Some path) = if at + 1 == length all then Some (statements.Imports path optional) else None

abbrev pub import : List Lexeme → Option Statement
import all =
    if word_at (codes "import") all 0 then import_of all (is_optional all) (after_word (is_optional all)) (literal_at all (after_word (is_optional all)))
    else None

-- after the name of a module stands nothing, or a quoted text
abbrev pub after_path : ℕ → Option StringLiteral → ℕ
after_path at None = at
after_path at (Some path) = at + 1

unfoldable pub declared_module : List Lexeme → Name → Bool → ℕ → Option Declaration
declared_module all name optional at =
    if after_path at (literal_at all at) == length all then Some (record { name = name; path = literal_at all at; optional = optional })
    else None

-- `mod NAME`, or with a path or `?`
abbrev pub module_in_line : List Lexeme → Bool → ℕ → Option Name → Option Declaration
module_in_line all optional at None = None
module_in_line all optional at (Some name) = declared_module all name optional (at + 1)

abbrev pub module_line : List Lexeme → Option Declaration
module_line all =
    if word_at (codes "mod") all 0 then module_in_line all (is_optional all) (after_word (is_optional all)) (read_name_at all (after_word (is_optional all)))
    else None

-- the first of several that is there
abbrev pub first_there : {A : Type 0} → Option A → Option A → Option A
first_there None other = other
first_there (Some it) other = Some it

-- a variable or a function
abbrev pub definition : List Lexeme → Option Statement
definition all = first_there (option_map statements.Assigns (definitions.assignment all)) (option_map statements.Defines (definitions.function all))

-- an item that takes no attributes
unfoldable pub statement : List Lexeme → Option Statement
statement all =
    first_there (import all)
    (first_there (option_map statements.Sets (definitions.set all))
    (first_there (option_map statements.Unexports (definitions.unexport all))
    (definition all)))

abbrev pub or_bad : Option Meaning → Meaning
or_bad None = meaning.Bad
or_bad (Some it) = it

-- a line of these lexemes
unfoldable pub sorted : List Lexeme → Meaning
sorted all =
    or_bad (first_there (option_map meaning.Declares (module_line all))
    (first_there (option_map meaning.Marks (attribute all))
    (first_there (option_map meaning.Aliases (alias_line all))
    (first_there (option_map meaning.States (statement all))
    (option_map meaning.Begins (heading_in_line all))))))

-- the place after the bracket that an attribute begins with, or after that of what a setting is set to
abbrev pub after_bracket : List Lexeme → ℕ
after_bracket all = if word_at (codes "set") all 0 then (if stands is_assign all 2 then 4 else 1) else 1

-- where it needs lists; such a bracket is no list
abbrev pub lists_of : List Lexeme → List ListUse
lists_of all = list_features (drop (after_bracket all) all)

abbrev pub said_by : List Lexeme → Said
said_by all = record { meaning = sorted all; lists = lists_of all }

abbrev pub sharp_by : Option (List Lexeme) → Option Said
sharp_by None = None
sharp_by (Some all) = Some (said_by all)

-- a line that is not ignored and begins with no blank
unfoldable pub sharp : List ℕ → List ℕ → TextLine → Option Said
sharp path text line = sharp_by (lexemes path text line 0 (length line.text))

-- a line that says this and needs no lists
abbrev pub plain : Meaning → Said
plain it = record { meaning = it; lists = [] }

abbrev pub or_plain : Option Said → Said
or_plain None = plain meaning.Bad
or_plain (Some it) = it

-- a line by its first byte
abbrev pub said_by_front : List ℕ → List ℕ → TextLine → List ℕ → Said
said_by_front path text line [] = plain meaning.Ignored
said_by_front path text line (b ∷ rest) =
    if b == 35 then plain meaning.Ignored
    else (if is_blank b then plain meaning.Indented
    else or_plain (sharp path text line))

-- what a line says
unfoldable pub said_by_line : List ℕ → List ℕ → TextLine → Said
said_by_line path text line = said_by_front path text line line.text
