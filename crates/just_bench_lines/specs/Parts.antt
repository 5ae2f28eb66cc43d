-- Parts one after another.
use Rattle.std.specs.Prelude.{zero, suc, ℕ, ◌+◌, ◌-◌, Bool, if◌then◌else◌, List, [], ◌∷◌, drop, Option, Some, None}
use Rattle.std.specs.Option.{option_map}
use Rattle.just_bench_expressions.specs.declared.lexer.Kind.{Kind}
use Rattle.just_bench_expressions.specs.declared.lexer.Lexeme.{Lexeme}

-- no more parts, where the line ends
abbrev pub at_line_end : {A : Type 0} → Bool → ℕ → Option (List A × ℕ)
at_line_end ends at = if ends then Some ([], at) else None

-- a part before others, which begin after the lexemes that it takes
abbrev pub before_others : {A : Type 0} → ℕ → Option (A × ℕ) → (ℕ → Option (List A × ℕ)) → Option (List A × ℕ)
before_others at None others = None
before_others {A} at (Some found) others = option_map {U = List A × ℕ} (λ more. (found.0 ∷ more.0, more.1)) (others (found.1 - (at + 1)))

-- the parts up to a lexeme of this kind, or to the end of the line where that may end them, and the place of that end, where so many lexemes at the front belong to the part before
abbrev pub parts_from : {A : Type 0} → Bool → (Kind → Bool) → (List Lexeme → ℕ → Option (A × ℕ)) → List Lexeme → ℕ → ℕ → List Lexeme → Option (List A × ℕ)
parts_from ends stop part all at skip [] = at_line_end ends at
parts_from ends stop part all at (suc skip) (l ∷ rest) = parts_from ends stop part all (at + 1) skip rest
parts_from ends stop part all at zero (l ∷ rest) =
    if stop l.kind then Some ([], at)
    else before_others at (part all at) (λ skip. parts_from ends stop part all (at + 1) skip rest)

unfoldable pub read_parts : {A : Type 0} → Bool → (Kind → Bool) → (List Lexeme → ℕ → Option (A × ℕ)) → List Lexeme → ℕ → Option (List A × ℕ)
read_parts ends stop part all start = parts_from ends stop part all start 0 (drop start all)
