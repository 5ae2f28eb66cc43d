-- What lexemes use that needs lists.
use Rattle.std.specs.Prelude.{Bool, true, false, if◌then◌else◌, List, [], ◌∷◌}
use Rattle.just_names.specs.declared.list_feature.ListFeature.TheVariants as feature
use Rattle.just_ast_expressions.specs.declared.list_use.ListUse.{ListUse}
use Rattle.just_bench_expressions.specs.declared.lexer.Kind.{Kind}
use Rattle.just_bench_expressions.specs.declared.lexer.Kind.TheVariants as kind
use Rattle.just_bench_expressions.specs.declared.lexer.Lexeme.{Lexeme}

-- `[`, at which a list begins
abbrev pub is_list : Kind → Bool
is_list kind.BracketOpen = true
is_list _ = false

-- where lists begin, in order
abbrev pub list_features : List Lexeme → List ListUse
list_features [] = []
list_features (l ∷ rest) = if is_list l.kind then record { feature = feature.List; token = l.token } ∷ list_features rest else list_features rest
