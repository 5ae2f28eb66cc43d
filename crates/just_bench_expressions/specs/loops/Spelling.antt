-- What private functions say beside `Spelling.antt`.
use Rattle.std.specs.Prelude.{List, [], ◌∷◌, Option, Some}
use Rattle.just_names.specs.Token.{lexeme}
use Rattle.just_bench_expressions.specs.declared.lexer.Kind.{Kind}
use Rattle.just_bench_expressions.specs.declared.lexer.Kind.TheVariants as kind
use Rattle.just_bench_expressions.specs.declared.lexer.Lexeme.{Lexeme}

-- the kind of the last lexeme, after one of this kind
abbrev pub last_kind : Option Kind → List Lexeme → Option Kind
last_kind before [] = before
last_kind before (l ∷ rest) = last_kind (Some l.kind) rest
