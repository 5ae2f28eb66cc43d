-- Where reading of a line stops, and what stands there.
use Rattle.std.specs.Prelude.{ℕ, if◌then◌else◌, nat_le, codes, List, [], ◌∷◌, length, Result, Ok, Err}
use Rattle.just_names.specs.Token.{Place}
use Rattle.just_names.specs.Texts.{Text}
use Rattle.just_bench_expressions.specs.declared.lexer.Lexeme.{Lexeme}
use Rattle.just_bench_expressions.specs.declared.lines.TextLine.{TextLine}
use Rattle.just_bench_expressions.specs.Lexemes.{lexed_to}
use Rattle.just_bench_stops.specs.declared.stops.Form.{Form}
use Rattle.just_bench_stops.specs.declared.stops.Form.TheVariants as form
use Rattle.just_bench_stops.specs.Attributes.{attribute_end}
use Rattle.just_bench_stops.specs.Definitions.{alias_end, prefixed_end, assignment_end, function_end, import_end, module_end, set_end, unexport_end}
use Rattle.just_bench_stops.specs.Heading.{heading_end}
use Rattle.just_bench_stops.specs.Tokens.{lexemes_between, told_at}

-- how far a line is read as one of a kind
unfoldable pub form_end : Form → List Lexeme → Result ℕ ℕ
form_end form.Import all = import_end all
form_end form.Module all = module_end all
form_end form.Setting all = set_end all
form_end form.Unexport all = unexport_end all
form_end form.Assignment all = assignment_end all 0
form_end form.Export all = prefixed_end (codes "export") all
form_end form.Eager all = prefixed_end (codes "eager") all
form_end form.Function all = function_end all
form_end form.Alias all = alias_end all
form_end form.Attribute all = attribute_end all
form_end form.Heading all = heading_end all

-- the place after it, or that where reading stops
abbrev pub stop_place : Result ℕ ℕ → ℕ
stop_place (Ok end) = end
stop_place (Err at) = at

-- the further one of two places
abbrev pub further_of : ℕ → ℕ → ℕ
further_of far place = if nat_le far place then place else far

abbrev pub further : List Lexeme → Form → ℕ → ℕ
further all it far = further_of far (stop_place (form_end it all))

abbrev pub furthest : List Lexeme → ℕ → List Form → ℕ
furthest all far [] = far
furthest all far (it ∷ rest) = furthest all (further all it far) rest

-- the kinds of lines
abbrev pub forms : List Form
forms =
    form.Import ∷ form.Module ∷ form.Setting ∷ form.Unexport ∷ form.Assignment ∷ form.Export ∷ form.Eager
    ∷ form.Function ∷ form.Alias ∷ form.Attribute ∷ form.Heading ∷ []

-- the place at which reading a line stops: the furthest to which it is read as one of some kind
unfoldable pub stop : List Lexeme → ℕ
stop all = furthest all 0 forms

-- where a line is told that is none of the grammar: what stands where reading stops of its lexemes, before the first part that is none
unfoldable pub line_stop : Text → Text → TextLine → Place
line_stop path text line =
    told_at path text line 0 (lexed_to line 0 (length line.text)) (stop (lexemes_between path text line 0 (lexed_to line 0 (length line.text))))
