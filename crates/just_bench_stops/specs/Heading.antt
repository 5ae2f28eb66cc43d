-- The line that a recipe begins with.
use Rattle.std.specs.Prelude.{ℕ, ◌+◌, ◌==◌, false, if◌then◌else◌, List, length, Result, Ok}
use Rattle.just_bench_expressions.specs.declared.lexer.Lexeme.{Lexeme}
use Rattle.just_bench_lines.specs.Places.{stands, is_at_sign, is_colon, is_name_kind}
use Rattle.just_bench_stops.specs.Marks.{goes_on_from, mark_end, line_end}
use Rattle.just_bench_stops.specs.Parts.{parts_end, part_end, dependencies_end, dependency_end}
use Rattle.just_bench_stops.specs.declared.parts.Part.TheVariants as part_kind

-- those that run after it, of which there is one at least, and which end the line
abbrev pub subsequents_end : List Lexeme → ℕ → Result ℕ ℕ
subsequents_end all at = goes_on_from (dependency_end all at) (λ at. goes_on_from (dependencies_end all at) (line_end all))

-- those that run before it, and `&&` before those that run after it, where there are such
abbrev pub sides_end : List Lexeme → ℕ → Result ℕ ℕ
sides_end all at = goes_on_from (dependencies_end all at) (λ end. if end == length all then Ok end else subsequents_end all (end + 1))

-- `@` or nothing, a name, parameters, `:`, and dependencies
unfoldable pub heading_end : List Lexeme → Result ℕ ℕ
heading_end all =
    goes_on_from (mark_end is_name_kind all (if stands is_at_sign all 0 then 1 else 0)) (λ at.
    goes_on_from (parts_end false is_colon (part_end part_kind.Parameter) all at) (λ colon. sides_end all (colon + 1)))
