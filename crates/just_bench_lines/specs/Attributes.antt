-- The lines of attributes.
use Rattle.std.specs.Prelude.{zero, suc, ℕ, ◌+◌, ◌-◌, ◌==◌, Bool, true, false, if◌then◌else◌, List, [], ◌∷◌, length, drop, codes, Option, Some, None, is_some}
use Rattle.std.specs.Str.{bytes_eq, chars}
use Rattle.just_names.specs.Token.{lexeme}
use Rattle.just_names.specs.declared.name.Name.{Name}
use Rattle.just_ast_definitions.specs.declared.attribute.Attribute.{Attribute}
use Rattle.just_ast_definitions.specs.declared.attribute.Attribute.TheVariants as attributes
use Rattle.just_ast_expressions.specs.declared.expression.Expression.{Expression}
use Rattle.just_ast_expressions.specs.declared.string_literal.StringLiteral.{StringLiteral}
use Rattle.just_bench_expressions.specs.declared.expressions.Found.{Found}
use Rattle.just_bench_expressions.specs.declared.lexer.Lexeme.{Lexeme}
use Rattle.just_bench_expressions.specs.Expressions.{expression}
use Rattle.just_bench_lines.specs.declared.attributes.Mark.{Mark}
use Rattle.just_bench_lines.specs.declared.attributes.Properties.{Properties}
use Rattle.just_bench_lines.specs.Definitions.{after_part}
use Rattle.just_bench_lines.specs.Places.{literal_at, read_name_at, stands, is_bracket_close, is_bracket_open, is_equals, is_paren_close, is_paren_open}

-- `]` ends the line
abbrev pub ends_at : List Lexeme → ℕ → Bool
ends_at all at = if stands is_bracket_close all at then at + 1 == length all else false

-- an attribute that is a word alone
abbrev pub word_alone : List ℕ → Option (Attribute Expression)
word_alone word =
    if bytes_eq word (codes "default") then Some attributes.Default
    else (if bytes_eq word (codes "private") then Some attributes.Private
    else (if bytes_eq word (codes "parallel") then Some attributes.Parallel
    else (if bytes_eq word (codes "confirm") then Some (attributes.Confirm None)
    else (if bytes_eq word (codes "no-quiet") then Some attributes.NoQuiet
    else None))))

-- the one character that a text is
abbrev pub only_of : List ℕ → Option ℕ
only_of [] = None
only_of (c ∷ []) = Some c
only_of (c ∷ d ∷ rest) = None

abbrev pub only_char : List ℕ → Option ℕ
only_char text = only_of (chars text)

-- the quoted text after `=`
abbrev pub value_at : List Lexeme → ℕ → Option StringLiteral
value_at all at = if stands is_equals all at then literal_at all (at + 1) else None

-- for the private functions: what was changed, and the place after what was read, if it may stand there
abbrev pub told : {A : Type 0} → Option ℕ → A → Option (A × ℕ)
told None x = None
told (Some end) x = Some (x, end)

-- `long='N'`, once
abbrev pub long_by : ℕ → Properties → Option StringLiteral → Option (Properties × ℕ)
long_by at properties None = None
long_by at properties (Some value) = if is_some properties.long then None else Some (record properties { long = Some value.cooked }, at + 2)

abbrev pub with_long : List Lexeme → ℕ → Properties → Option (Properties × ℕ)
with_long all at properties = long_by at properties (value_at all at)

-- `short='c'`, once
abbrev pub char_of : Option StringLiteral → Option ℕ
char_of None = None
char_of (Some value) = only_char value.cooked

abbrev pub short_by : ℕ → Properties → Option ℕ → Option (Properties × ℕ)
short_by at properties None = None
short_by at properties (Some c) = if is_some properties.short then None else Some (record properties { short = Some c }, at + 2)

abbrev pub with_short : List Lexeme → ℕ → Properties → Option (Properties × ℕ)
with_short all at properties = short_by at properties (char_of (value_at all at))

-- `flag`, once
abbrev pub with_flag : ℕ → Properties → Option (Properties × ℕ)
with_flag at properties = if properties.flag then None else Some (record properties { flag = true }, at)

-- `pattern=E`, once
abbrev pub read_pattern : Name → Properties → Option Found → Option (Properties × ℕ)
read_pattern key properties None = None
read_pattern key properties (Some found) = Some (record properties { pattern = Some (record { key = key; value = found.made }) }, found.end)

abbrev pub with_pattern : List Lexeme → Name → ℕ → Properties → Option (Properties × ℕ)
with_pattern all key at properties =
    if is_some properties.pattern then None
    else (if stands is_equals all at then read_pattern key properties (expression true all (at + 1)) else None)

-- what stands at a place, by its word
abbrev pub by_key : List Lexeme → ℕ → Properties → Option Name → Option (Properties × ℕ)
by_key all at properties None = None
by_key all at properties (Some key) =
    if bytes_eq (lexeme key.token) (codes "long") then with_long all (at + 1) properties
    else (if bytes_eq (lexeme key.token) (codes "short") then with_short all (at + 1) properties
    else (if bytes_eq (lexeme key.token) (codes "flag") then with_flag (at + 1) properties
    else (if bytes_eq (lexeme key.token) (codes "pattern") then with_pattern all key (at + 1) properties
    else None)))

unfoldable pub with_property : List Lexeme → ℕ → Properties → Option (Properties × ℕ)
with_property all at properties = by_key all at properties (read_name_at all at)

-- others after what was read, which begin after so many lexemes
abbrev pub after_property : ℕ → Properties → Option ℕ → (ℕ → Properties → Option (Properties × ℕ)) → Option (Properties × ℕ)
after_property at properties None others = None
after_property at properties (Some next) others = others (next - (at + 1)) properties

abbrev pub before_others : List Lexeme → ℕ → Option (Properties × ℕ) → (ℕ → Properties → Option (Properties × ℕ)) → Option (Properties × ℕ)
before_others all at None others = None
before_others all at (Some found) others = after_property at found.0 (after_part all found.1) others

-- what stands up to the `)`, and its place, where so many lexemes at the front belong to what was read before
abbrev pub properties_from : List Lexeme → ℕ → ℕ → Properties → List Lexeme → Option (Properties × ℕ)
properties_from all at skip properties [] = None
properties_from all at (suc skip) properties (l ∷ rest) = properties_from all (at + 1) skip properties rest
properties_from all at zero properties (l ∷ rest) =
    if is_paren_close l.kind then Some (properties, at)
    else before_others all at (with_property all at properties) (λ skip more. properties_from all (at + 1) skip more rest)

unfoldable pub with_properties : List Lexeme → ℕ → Properties → Option (Properties × ℕ)
with_properties all start properties = properties_from all start 0 properties (drop start all)

-- an attribute of a parameter
abbrev pub made_arg : Name → StringLiteral → List ℕ → Properties → Mark
made_arg name parameter text properties = record {
  named = record { name = name; attribute = attributes.Arg (record { name = parameter; help = None; help_property = None; pattern = None; pattern_property = properties.pattern }) };
  options = Some (record { parameter = text; long = properties.long; short = properties.short; flag = properties.flag });
}

abbrev pub no_properties : Properties
no_properties = record { long = None; short = None; flag = false; pattern = None }

abbrev pub arg_ends : List Lexeme → Name → StringLiteral → Option (Properties × ℕ) → Option Mark
arg_ends all name parameter None = None
arg_ends all name parameter (Some found) = if ends_at all (found.1 + 1) then Some (made_arg name parameter parameter.cooked found.0) else None

abbrev pub arg_from : List Lexeme → Name → StringLiteral → Option ℕ → Option Mark
arg_from all name parameter None = None
arg_from all name parameter (Some next) = arg_ends all name parameter (with_properties all next no_properties)

abbrev pub arg_of : List Lexeme → Name → ℕ → Option StringLiteral → Option Mark
arg_of all name at None = None
arg_of all name at (Some parameter) = arg_from all name parameter (after_part all (at + 1))

unfoldable pub arg : List Lexeme → Name → ℕ → Option Mark
arg all name at = arg_of all name at (literal_at all at)

-- `)` and `]` end the line
abbrev pub closes_at : List Lexeme → ℕ → Bool
closes_at all at = if stands is_paren_close all at then ends_at all (at + 1) else false

abbrev pub group_attribute : List Lexeme → ℕ → Option StringLiteral → Option (Attribute Expression)
group_attribute all at None = None
group_attribute all at (Some text) = if closes_at all (at + 1) then Some (attributes.Group text) else None

unfoldable pub group_in_line : List Lexeme → ℕ → Option (Attribute Expression)
group_in_line all at = group_attribute all at (literal_at all at)

abbrev pub doc_attribute : List Lexeme → Option Found → Option (Attribute Expression)
doc_attribute all None = None
doc_attribute all (Some found) = if closes_at all found.end then Some (attributes.Doc (Some found.made)) else None

unfoldable pub doc : List Lexeme → ℕ → Option (Attribute Expression)
doc all at = doc_attribute all (expression true all at)

-- an attribute that says nothing of a parameter
abbrev pub marked : Name → Option (Attribute Expression) → Option Mark
marked name None = None
marked name (Some it) = Some (record { named = record { name = name; attribute = it }; options = None })

-- an attribute with something in parentheses
abbrev pub with_argument : List Lexeme → Name → Option Mark
with_argument all name =
    if bytes_eq (lexeme name.token) (codes "group") then marked name (group_in_line all 3)
    else (if bytes_eq (lexeme name.token) (codes "doc") then marked name (doc all 3)
    else (if bytes_eq (lexeme name.token) (codes "arg") then arg all name 3
    else None))

abbrev pub attribute_of : List Lexeme → Option Name → Option Mark
attribute_of all None = None
attribute_of all (Some name) =
    if ends_at all 2 then marked name (word_alone (lexeme name.token))
    else (if stands is_paren_open all 2 then with_argument all name else None)

-- `[NAME]` or `[NAME(..)]`
unfoldable pub attribute : List Lexeme → Option Mark
attribute all = if stands is_bracket_open all 0 then attribute_of all (read_name_at all 1) else None
