-- Parts one after another.
use Rattle.std.specs.Prelude.{zero, suc, ℕ, ◌+◌, ◌-◌, Bool, true, false, if◌then◌else◌, List, [], ◌∷◌, drop, Result, Ok, Err}
use Rattle.just_bench_expressions.specs.declared.lexer.Kind.{Kind}
use Rattle.just_bench_expressions.specs.declared.lexer.Lexeme.{Lexeme}
use Rattle.just_bench_expressions.specs.Expressions.{expression_end}
use Rattle.just_bench_lines.specs.Places.{stands, is_comma, is_equals, is_name_kind, is_paren_close, is_paren_open, is_plus, is_star, is_and}
use Rattle.just_bench_stops.specs.Marks.{goes_on_from, mark_end, path_end}
use Rattle.just_bench_stops.specs.declared.parts.Part.{Part}
use Rattle.just_bench_stops.specs.declared.parts.Part.TheVariants as part_kind

-- the end of the line, where it may end parts
abbrev pub ends_there : Bool → ℕ → Result ℕ ℕ
ends_there ends at = if ends then Ok at else Err at

-- the parts up to a lexeme of this kind, or to the end of the line where that may end them, where so many lexemes at the front belong to the part before
abbrev pub parts_end_from : Bool → (Kind → Bool) → (List Lexeme → ℕ → Result ℕ ℕ) → List Lexeme → ℕ → ℕ → List Lexeme → Result ℕ ℕ
parts_end_from ends stop part all at skip [] = ends_there ends at
parts_end_from ends stop part all at (suc skip) (l ∷ rest) = parts_end_from ends stop part all (at + 1) skip rest
parts_end_from ends stop part all at zero (l ∷ rest) =
    if stop l.kind then Ok at
    else goes_on_from (part all at) (λ end. parts_end_from ends stop part all (at + 1) (end - (at + 1)) rest)

-- they end at the place of such a lexeme
unfoldable pub parts_end : Bool → (Kind → Bool) → (List Lexeme → ℕ → Result ℕ ℕ) → List Lexeme → ℕ → Result ℕ ℕ
parts_end ends stop part all start = parts_end_from ends stop part all start 0 (drop start all)

-- after a part between parentheses: its comma, behind which another part stands, or nothing before the `)`
abbrev pub after_part_end : List Lexeme → ℕ → Result ℕ ℕ
after_part_end all at =
    if stands is_comma all at then (if stands is_paren_close all (at + 1) then Err (at + 1) else Ok (at + 1))
    else (if stands is_paren_close all at then Ok at else Err at)

-- the mark of a parameter of a recipe
abbrev pub after_sign : List Lexeme → ℕ → ℕ
after_sign all at = if stands is_star all at then at + 1 else (if stands is_plus all at then at + 1 else at)

-- a default after a name
abbrev pub default_end : List Lexeme → ℕ → Result ℕ ℕ
default_end all at = if stands is_equals all at then expression_end false all (at + 1) else Ok at

-- a parameter of a recipe: its mark, its name and its default
abbrev pub parameter_end : List Lexeme → ℕ → Result ℕ ℕ
parameter_end all at = goes_on_from (mark_end is_name_kind all (after_sign all at)) (λ end. default_end all end)

-- an argument of a dependency: `*` or nothing, and an expression that is no sum
abbrev pub argument_end : List Lexeme → ℕ → Result ℕ ℕ
argument_end all at = if stands is_star all at then expression_end false all (at + 1) else expression_end false all at

-- a parameter of a function, with what stands between it and the next
abbrev pub function_parameter_end : List Lexeme → ℕ → Result ℕ ℕ
function_parameter_end all at = goes_on_from (mark_end is_name_kind all at) (λ end. after_part_end all end)

unfoldable pub part_end : Part → List Lexeme → ℕ → Result ℕ ℕ
part_end part_kind.Parameter = parameter_end
part_end part_kind.Operand = expression_end false
part_end part_kind.Argument = argument_end
part_end part_kind.FunctionParameter = function_parameter_end

-- a dependency with arguments, of which none has a star where none stands before the `(`
abbrev pub given_end : List Lexeme → ℕ → Result ℕ ℕ
given_end all at =
    goes_on_from (mark_end is_paren_open all at) (λ at. goes_on_from (path_end all at) (λ at.
    goes_on_from (parts_end false is_paren_close (part_end part_kind.Operand) all at) (λ end. Ok (end + 1))))

-- one of whose arguments the first that has a star stands anywhere among them, where one stands before the `(`
abbrev pub starred_end : List Lexeme → ℕ → Result ℕ ℕ
starred_end all at =
    goes_on_from (mark_end is_paren_open all at) (λ at. goes_on_from (path_end all at) (λ at.
    goes_on_from (parts_end false is_star (part_end part_kind.Operand) all at) (λ at.
    goes_on_from (parts_end false is_paren_close (part_end part_kind.Argument) all at) (λ end. Ok (end + 1)))))

-- PATH, or `(PATH A ..)` with `*` or nothing before it
unfoldable pub dependency_end : List Lexeme → ℕ → Result ℕ ℕ
dependency_end all at =
    if stands is_star all at then starred_end all (at + 1)
    else (if stands is_paren_open all at then given_end all at else path_end all at)

-- dependencies up to `&&` or the end of the line
abbrev pub dependencies_end : List Lexeme → ℕ → Result ℕ ℕ
dependencies_end = parts_end true is_and dependency_end
