-- The line of an alias.
use Rattle.std.specs.Prelude.{ℕ, ◌==◌, if◌then◌else◌, List, length, codes, Option, Some, None}
use Rattle.just_names.specs.declared.name.Name.{Name}
use Rattle.just_names.specs.declared.name.Namepath.{Namepath}
use Rattle.just_bench_expressions.specs.declared.lexer.Lexeme.{Lexeme}
use Rattle.just_bench_lines.specs.declared.alias.AliasLine.{AliasLine}
use Rattle.just_bench_lines.specs.Path.{path}
use Rattle.just_bench_lines.specs.Places.{read_name_at, stands, word_at, is_assign}

-- its target ends the line
abbrev pub with_target : List Lexeme → Name → Option (Namepath × ℕ) → Option AliasLine
with_target all name None = None
with_target all name (Some found) = if found.1 == length all then Some (record { name = name; target = found.0 }) else None

abbrev pub alias_in_line : List Lexeme → Option Name → Option AliasLine
alias_in_line all None = None
alias_in_line all (Some name) = if stands is_assign all 2 then with_target all name (path all 3) else None

-- `alias NAME := PATH`
abbrev pub alias_line : List Lexeme → Option AliasLine
alias_line all = if word_at (codes "alias") all 0 then alias_in_line all (read_name_at all 1) else None
