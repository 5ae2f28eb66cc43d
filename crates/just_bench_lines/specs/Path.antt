-- Paths: names joined by `::`.
use Rattle.std.specs.Prelude.{ℕ, ◌+◌, ◌*◌, Bool, false, if◌then◌else◌, List, [], ◌∷◌, length, drop, Option, Some, None}
use Rattle.std.specs.List.{slice_get}
use Rattle.just_names.specs.declared.name.Name.{Name}
use Rattle.just_names.specs.declared.name.Namepath.{Namepath}
use Rattle.just_bench_expressions.specs.declared.lexer.Lexeme.{Lexeme}
use Rattle.just_bench_lines.specs.Places.{adjoins, is_colon, read_name_at, name_there}

-- `::`: two colons, the second right after the first
abbrev pub separates : Option Lexeme → Option Lexeme → Bool
separates None second = false
separates (Some c) None = false
separates (Some c) (Some d) = if is_colon c.kind then (if is_colon d.kind then adjoins c d else false) else false

abbrev pub separated : List Lexeme → ℕ → Bool
separated all at = separates (slice_get all at) (slice_get all (at + 1))

-- the name after `::` at a place
abbrev pub joined_at : List Lexeme → ℕ → Option Name
joined_at all at = if separated all at then read_name_at all (at + 2) else None

-- the names at the front, each after `::`
abbrev pub and_names : Option Name → List Name → List Name
and_names None more = []
and_names (Some name) more = name ∷ more

abbrev pub joined_names : List Lexeme → List Name
joined_names [] = []
joined_names (c ∷ []) = []
joined_names (c ∷ d ∷ []) = []
joined_names (c ∷ d ∷ l ∷ rest) = if separates (Some c) (Some d) then and_names (name_there (Some l)) (joined_names rest) else []

-- the path of a name and others
abbrev pub before_path : Name → Namepath → Namepath
before_path name path = record { front = name ∷ path.front; last = path.last }

abbrev pub path_of_names : Name → List Name → Namepath
path_of_names name [] = record { front = []; last = name }
path_of_names name (next ∷ more) = before_path name (path_of_names next more)

-- a name and those that are joined to it, and the place after them: each takes three lexemes
abbrev pub path_from : ℕ → List Name → Option Name → Option (Namepath × ℕ)
path_from at more None = None
path_from at more (Some name) = Some (path_of_names name more, at + 1 + 3 * length more)

unfoldable pub path : List Lexeme → ℕ → Option (Namepath × ℕ)
path all at = path_from at (joined_names (drop (at + 1) all)) (read_name_at all at)
