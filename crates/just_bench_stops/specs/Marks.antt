-- How far a line is read, in places among its lexemes. Each part ends at the place after it, or reading stops in it: at the first lexeme that it does not go on with, or at the end of the line where that ends too early.
use Rattle.std.specs.Prelude.{◌≡◌, ℕ, ◌+◌, ◌==◌, Bool, if◌then◌else◌, List, length, Option, Some, None, Result, Ok, Err}
use Rattle.just_names.specs.declared.name.Namepath.{Namepath}
use Rattle.just_bench_expressions.specs.declared.lexer.Kind.{Kind}
use Rattle.just_bench_expressions.specs.declared.lexer.Lexeme.{Lexeme}
use Rattle.just_bench_lines.specs.Path.{path, separated}
use Rattle.just_bench_lines.specs.Places.{stands, word_at}
use Rattle.just_bench_stops.specs.declared.halt.Halt.{Halt}
use Rattle.just_bench_stops.specs.declared.halt.Halt.TheVariants as halt

-- what follows a part, from where that ends
abbrev pub goes_on_from : Result ℕ ℕ → (ℕ → Result ℕ ℕ) → Result ℕ ℕ
goes_on_from (Err at) more = Err at
goes_on_from (Ok end) more = more end

-- a lexeme of such a kind
abbrev pub mark_end : (Kind → Bool) → List Lexeme → ℕ → Result ℕ ℕ
mark_end is all at = if stands is all at then Ok (at + 1) else Err at

-- a word
abbrev pub word_end : List ℕ → List Lexeme → ℕ → Result ℕ ℕ
word_end it all at = if word_at it all at then Ok (at + 1) else Err at

-- nothing, at the end of the line
abbrev pub line_end : List Lexeme → ℕ → Result ℕ ℕ
line_end all at = if at == length all then Ok at else Err at

-- a path, which ends where no `::` follows; behind one stands a name
abbrev pub path_end_by : List Lexeme → ℕ → Option (Namepath × ℕ) → Result ℕ ℕ
path_end_by all at None = Err at
path_end_by all at (Some found) = if separated all found.1 then Err (found.1 + 2) else Ok found.1

abbrev pub path_end : List Lexeme → ℕ → Result ℕ ℕ
path_end all at = path_end_by all at (path all at)

-- for the private functions: a part ends there, or reading it stops there, or memory was refused
abbrev pub GoesTo : Result ℕ Halt → Result ℕ ℕ → Type 0
GoesTo (Ok end) it = Ok end ≡ it
GoesTo (Err (halt.At at)) it = Err at ≡ it
GoesTo (Err halt.Memory) it = Unit {0}
