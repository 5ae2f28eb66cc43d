-- What a recipe depends on.
use Rattle.std.specs.Prelude.{ℕ, ◌+◌, Bool, true, false, not, if◌then◌else◌, List, [], Option, Some, None}
use Rattle.just_names.specs.declared.name.Namepath.{Namepath}
use Rattle.just_recipe.specs.declared.dependency.DependencyArgument.{DependencyArgument}
use Rattle.just_recipe.specs.declared.dependency.UnresolvedDependency.{UnresolvedDependency}
use Rattle.just_recipe.specs.Starred.{has_star}
use Rattle.just_bench_expressions.specs.declared.expressions.Found.{Found}
use Rattle.just_bench_expressions.specs.declared.lexer.Lexeme.{Lexeme}
use Rattle.just_bench_expressions.specs.Expressions.{expression}
use Rattle.just_bench_lines.specs.Parts.{read_parts}
use Rattle.just_bench_lines.specs.Path.{path}
use Rattle.just_bench_lines.specs.Places.{stands, is_and, is_paren_close, is_paren_open, is_star}

-- an argument, and the place after it
abbrev pub argument_in_line : Bool → Option Found → Option (DependencyArgument × ℕ)
argument_in_line starred None = None
argument_in_line starred (Some found) = Some (record { expression = found.made; starred = starred }, found.end)

-- an argument: `*` or nothing, and an expression that is no sum
unfoldable pub argument : List Lexeme → ℕ → Option (DependencyArgument × ℕ)
argument all at = if stands is_star all at then argument_in_line true (expression false all (at + 1)) else argument_in_line false (expression false all at)

-- the arguments up to a `)`, and its place
abbrev pub arguments : List Lexeme → ℕ → Option (List DependencyArgument × ℕ)
arguments = read_parts false is_paren_close argument

-- a star stands before the parentheses exactly where one of the arguments has one
abbrev pub fits : Bool → List DependencyArgument → Bool
fits star arguments = if star then has_star arguments else not (has_star arguments)

-- a dependency with arguments, and the place after its `)`
abbrev pub with_arguments : Bool → Namepath → Option (List DependencyArgument × ℕ) → Option (UnresolvedDependency × ℕ)
with_arguments star recipe None = None
with_arguments star recipe (Some found) = if fits star found.0 then Some (record { arguments = found.0; recipe = recipe }, found.1 + 1) else None

abbrev pub in_parentheses : List Lexeme → Bool → Option (Namepath × ℕ) → Option (UnresolvedDependency × ℕ)
in_parentheses all star None = None
in_parentheses all star (Some found) = with_arguments star found.0 (arguments all found.1)

-- one without arguments
abbrev pub alone : Option (Namepath × ℕ) → Option (UnresolvedDependency × ℕ)
alone None = None
alone (Some found) = Some (record { arguments = []; recipe = found.0 }, found.1)

-- one whose path stands after the `(` at a place
unfoldable pub parenthesized : List Lexeme → Bool → ℕ → Option (UnresolvedDependency × ℕ)
parenthesized all star at = if stands is_paren_open all at then in_parentheses all star (path all (at + 1)) else None

-- PATH, or `(PATH A ..)` with `*` or nothing before it
unfoldable pub dependency : List Lexeme → ℕ → Option (UnresolvedDependency × ℕ)
dependency all at =
    if stands is_star all at then parenthesized all true (at + 1)
    else (if stands is_paren_open all at then parenthesized all false at else alone (path all at))

-- the dependencies up to `&&` or the end of the line, and the place of that
abbrev pub dependency_list : List Lexeme → ℕ → Option (List UnresolvedDependency × ℕ)
dependency_list = read_parts true is_and dependency
