-- Expressions, from lexemes on. A level is the expression as a whole, or what stands between two brackets in it.
use Rattle.std.specs.Prelude.{◌≡◌, ℕ, ◌+◌, Bool, true, false, not, ◌&&◌, if◌then◌else◌, List, [], ◌∷◌, ◌++◌, drop, slice_range, Option, Some, None, is_some, Result, Ok, Err}
use Rattle.std.specs.Option.{option_map}
use Rattle.just_names.specs.Token.{lexeme}
use Rattle.just_names.specs.declared.name.Name.{Name}
use Rattle.just_ast_expressions.specs.declared.expression.Expression.{Expression}
use Rattle.just_ast_expressions.specs.declared.expression.Shape.{Shape}
use Rattle.just_ast_expressions.specs.declared.expression.Shape.TheVariants as shape
use Rattle.just_bench_expressions.specs.declared.expressions.Bracket.{Bracket}
use Rattle.just_bench_expressions.specs.declared.expressions.Bracket.TheVariants as bracket
use Rattle.just_bench_expressions.specs.declared.expressions.Found.{Found}
use Rattle.just_bench_expressions.specs.declared.expressions.Level.{Level}
use Rattle.just_bench_expressions.specs.declared.expressions.Ready.{Ready}
use Rattle.just_bench_expressions.specs.declared.expressions.Ready.TheVariants as ready
use Rattle.just_bench_expressions.specs.declared.expressions.State.{State}
use Rattle.just_bench_expressions.specs.declared.lexer.Kind.{Kind}
use Rattle.just_bench_expressions.specs.declared.lexer.Kind.TheVariants as kind
use Rattle.just_bench_expressions.specs.declared.lexer.Lexeme.{Lexeme}
use Rattle.just_bench_expressions.specs.Lexemes.{between_quotes}
use Rattle.just_bench_expressions.specs.Spelling.{spell, is_plus}
use Rattle.just_bench_expressions.specs.Stack.{list_top}

-- `(`
abbrev pub is_paren_open : Kind → Bool
is_paren_open kind.ParenOpen = true
is_paren_open _ = false

-- `)`
abbrev pub is_paren_close : Kind → Bool
is_paren_close kind.ParenClose = true
is_paren_close _ = false

-- `]`
abbrev pub is_bracket_close : Kind → Bool
is_bracket_close kind.BracketClose = true
is_bracket_close _ = false

-- a lexeme as a name
abbrev pub lexeme_name : Lexeme → Name
lexeme_name l = record { token = l.token }

-- `(` is at the front
abbrev pub opens_call : List Lexeme → Bool
opens_call [] = false
opens_call (l ∷ rest) = is_paren_open l.kind

-- a lexeme of this kind ends what the bracket begins
abbrev pub closes : Bracket → Kind → Bool
closes bracket.Group k = is_paren_close k
closes bracket.List k = is_bracket_close k
closes (bracket.Call name) k = is_paren_close k

-- the bracket may have several elements
abbrev pub has_several : Bracket → Bool
has_several bracket.Group = false
has_several bracket.List = true
has_several (bracket.Call name) = true

-- a lexeme of this kind ends the level
abbrev pub ends_in : Option Level → Kind → Bool
ends_in None k = false
ends_in (Some level) k = closes level.bracket k

abbrev pub ends_level : State → Kind → Bool
ends_level state k = ends_in (list_top state.outer) k

-- the level may have several elements
abbrev pub has_elements_in : Option Level → Bool
has_elements_in None = false
has_elements_in (Some level) = has_several level.bracket

abbrev pub has_elements : State → Bool
has_elements state = has_elements_in (list_top state.outer)

-- an operand was read
abbrev pub is_read : Ready → Bool
is_read ready.Read = true
is_read _ = false

-- no level waits
abbrev pub is_outermost : Option Level → Bool
is_outermost None = true
is_outermost (Some level) = false

-- the expression ends before a lexeme of this kind; only one that may be a sum goes on with `+`
abbrev pub stops : Bool → State → Kind → Bool
stops sums state k = if is_read state.ready then (if is_outermost (list_top state.outer) then not (sums && is_plus k) else false) else false

-- a form with the spelling of its lexemes, those from one place to another
abbrev pub spelled : List Lexeme → ℕ → ℕ → Shape → Expression
spelled all start end s = record { shape = s; text = spell (slice_range all start end) }

-- a sum with its next part, from one place to another
abbrev pub added : List Lexeme → ℕ → ℕ → Option Expression → Expression → Expression
added all start end None part = part
added all start end (Some sum) part = spelled all start end (shape.Concatenation sum part)

-- where a sum begins whose next part begins at a place
abbrev pub sum_start : State → ℕ → ℕ
sum_start state start = if is_some state.sum then state.start else start

-- after an operand, whose lexemes are those from one place to another
abbrev pub with_operand : List Lexeme → ℕ → ℕ → State → Expression → State
with_operand all start end state part = record {
  outer = state.outer;
  elements = state.elements;
  sum = Some (added all (sum_start state start) end state.sum part);
  start = sum_start state start;
  ready = ready.Read;
}

-- after an operand of this form, whose lexemes are those from one place to another
unfoldable pub with_shape : List Lexeme → ℕ → ℕ → State → Shape → State
with_shape all start end state s = with_operand all start end state (spelled all start end s)

-- in a level that begins
unfoldable pub opened_level : ℕ → State → Bracket → Ready → State
opened_level at state bracket next = record {
  outer = record { bracket = bracket; at = at; elements = state.elements; sum = state.sum; start = state.start } ∷ state.outer;
  elements = [];
  sum = None;
  start = 0;
  ready = next;
}

-- after a name from `at` to `end`, which is a variable, or a function where `(` follows
abbrev pub named_expression : List Lexeme → ℕ → ℕ → State → Lexeme → Bool → State
named_expression all at end state l call = if call then opened_level at state (bracket.Call (lexeme_name l)) ready.Calls else with_shape all at end state (shape.Variable (lexeme_name l) None)

-- after a lexeme from `at` to `end` that stands where an operand must; a name before `(` begins a call
abbrev pub begun_by : Kind → List Lexeme → ℕ → ℕ → State → Lexeme → Bool → Option State
begun_by kind.Quoted all at end state l call = Some (with_shape all at end state (shape.StringLiteral (between_quotes (lexeme l.token))))
begun_by kind.Name all at end state l call = Some (named_expression all at end state l call)
begun_by kind.ParenOpen all at end state l call = Some (opened_level at state bracket.Group ready.Wants)
begun_by kind.BracketOpen all at end state l call = Some (opened_level at state bracket.List ready.Opens)
begun_by _ all at end state l call = None

unfoldable pub begun_expression : List Lexeme → ℕ → ℕ → State → Lexeme → Bool → Option State
begun_expression all at end state l call = begun_by l.kind all at end state l call

-- the elements of a level, of which the last is a sum
abbrev pub and_sum : List Expression → Option Expression → List Expression
and_sum elements None = elements
and_sum elements (Some sum) = elements ++ sum ∷ []

-- the one expression of a group
abbrev pub group_shape : Option Expression → Option Shape
group_shape None = None
group_shape (Some sum) = Some (shape.Group sum)

-- the form of a bracket and what stands in it
abbrev pub shape_of : Bracket → List Expression → Option Expression → Option Shape
shape_of bracket.Group elements sum = group_shape sum
shape_of bracket.List elements sum = Some (shape.List (and_sum elements sum))
shape_of (bracket.Call name) elements sum = Some (shape.Call name (and_sum elements sum))

-- the level that waited, as it stood
abbrev pub resumed : Level → List Level → Ready → State
resumed level outer before = record { outer = outer; elements = level.elements; sum = level.sum; start = level.start; ready = before }

-- after the lexeme that ends the level, and ends before `end`
abbrev pub closed_in : List Level → List Lexeme → ℕ → State → Option State
closed_in [] all end state = None
closed_in (level ∷ outer) all end state = option_map (λ s. with_shape all level.at end (resumed level outer state.ready) s) (shape_of level.bracket state.elements state.sum)

unfoldable pub closed : List Lexeme → ℕ → State → Option State
closed all end state = closed_in state.outer all end state

-- where the next element of the level begins
abbrev pub next_element : State → State
next_element state = record { outer = state.outer; elements = and_sum state.elements state.sum; sum = None; start = 0; ready = ready.Wants }

-- after a lexeme of this kind, which goes on with the level
abbrev pub continued : Kind → State → Option State
continued kind.Plus state = Some (record { outer = state.outer; elements = state.elements; sum = state.sum; start = state.start; ready = ready.Wants })
continued kind.Comma state = if has_elements state then Some (next_element state) else None
continued _ state = None

-- after a lexeme of this kind that follows an operand, and ends before `end`
unfoldable pub followed : List Lexeme → ℕ → State → Kind → Option State
followed all end state k = if ends_level state k then closed all end state else continued k state

-- after a lexeme from `at` to `end`, before which this may stand
abbrev pub step_by : Ready → List Lexeme → ℕ → ℕ → State → Lexeme → Bool → Option State
step_by ready.Wants all at end state l call = begun_expression all at end state l call
step_by ready.Opens all at end state l call = if ends_level state l.kind then closed all end state else begun_expression all at end state l call
step_by ready.Calls all at end state l call = Some (record { outer = state.outer; elements = state.elements; sum = state.sum; start = state.start; ready = ready.Opens })
step_by ready.Read all at end state l call = followed all end state l.kind

unfoldable pub read_step : List Lexeme → ℕ → ℕ → State → Lexeme → Bool → Option State
read_step all at end state l call = step_by state.ready all at end state l call

-- the sum of the outermost level, which ends here
abbrev pub found_at : ℕ → Option Expression → Option Found
found_at at None = None
found_at at (Some sum) = Some (record { made = sum; end = at })

-- what was read up to a place, if it is a whole expression
abbrev pub finished : ℕ → State → Option Found
finished at state = if is_read state.ready then (if is_outermost (list_top state.outer) then found_at at state.sum else None) else None

-- what is read on after a state, if there is one
abbrev pub onward : Option State → (State → Option Found) → Option Found
onward None more = None
onward (Some state) more = more state

-- reads on through the lexemes from a place on
abbrev pub read : Bool → List Lexeme → ℕ → State → List Lexeme → Option Found
read sums all at state [] = finished at state
read sums all at state (l ∷ rest) =
    if stops sums state l.kind then finished at state
    else onward (read_step all at (at + 1) state l (opens_call rest)) (λ next. read sums all (at + 1) next rest)

-- for the private functions: a state that was changed, if the lexeme may stand there
abbrev pub told : Bool → State → Option State
told true state = Some state
told false state = None

-- where an expression ends that was read up to a place: there if it is whole, else reading stops there
abbrev pub end_at : ℕ → Option Found → Result ℕ ℕ
end_at at None = Err at
end_at at (Some found) = Ok at

-- where it ends after a lexeme, or stops at a place where that may not stand
abbrev pub end_onward : ℕ → Option State → (State → Result ℕ ℕ) → Result ℕ ℕ
end_onward at None more = Err at
end_onward at (Some state) more = more state

-- where it ends that is read on through the lexemes from a place on, or where reading stops: at the first lexeme that it does not go on with, or at the end
abbrev pub read_end : Bool → List Lexeme → ℕ → State → List Lexeme → Result ℕ ℕ
read_end sums all at state [] = end_at at (finished at state)
read_end sums all at state (l ∷ rest) =
    if stops sums state l.kind then end_at at (finished at state)
    else end_onward at (read_step all at (at + 1) state l (opens_call rest)) (λ next. read_end sums all (at + 1) next rest)

-- an end is where an expression ends, and there is none where there is no expression
abbrev pub EndsWith : Option Found → Result ℕ ℕ → Type 0
EndsWith (Some found) (Ok end) = found.end ≡ end
EndsWith (Some found) (Err at) = ⊥
EndsWith None (Ok end) = ⊥
EndsWith None (Err at) = Unit {0}

-- for the private functions: what was read up to a place, where no lexeme was out of place
abbrev pub read_up_to : Result ℕ ℕ → State → Option Found
read_up_to (Err at) state = None
read_up_to (Ok at) state = finished at state

-- for the private functions: where that ends
abbrev pub ended : Result ℕ ℕ → State → Result ℕ ℕ
ended (Err at) state = Err at
ended (Ok at) state = end_at at (finished at state)

-- nothing was read
abbrev pub unread : State
unread = record { outer = []; elements = []; sum = None; start = 0; ready = ready.Wants }

-- the expression that begins at a place, with its sum or without
unfoldable pub expression : Bool → List Lexeme → ℕ → Option Found
expression sums all at = read sums all at unread (drop at all)

-- where the expression ends that begins at a place, or where reading it stops
unfoldable pub expression_end : Bool → List Lexeme → ℕ → Result ℕ ℕ
expression_end sums all at = read_end sums all at unread (drop at all)
