-- Kinds of lexemes that are the same.
use Rattle.std.proofs.Common.{◌≡◌, refl}
use Rattle.just_bench_expressions.specs.contracts.lexer.KindPartialEq.TheImpl.{eq-value}
use Rattle.just_bench_expressions.specs.declared.lexer.Kind.{Kind}
use Rattle.just_bench_expressions.specs.declared.lexer.Kind.TheVariants as kind
use Rattle.just_bench_lines.specs.Places.{is_mark}

pub same : (mark k : Kind) → eq-value.it k mark ≡ is_mark mark k
same kind.Name kind.Name = refl
same kind.Name _ = refl
same kind.Quoted kind.Quoted = refl
same kind.Quoted _ = refl
same kind.Colon kind.Colon = refl
same kind.Colon _ = refl
same kind.Assign kind.Assign = refl
same kind.Assign _ = refl
same kind.Equals kind.Equals = refl
same kind.Equals _ = refl
same kind.And kind.And = refl
same kind.And _ = refl
same kind.Question kind.Question = refl
same kind.Question _ = refl
same kind.Star kind.Star = refl
same kind.Star _ = refl
same kind.Plus kind.Plus = refl
same kind.Plus _ = refl
same kind.At kind.At = refl
same kind.At _ = refl
same kind.Comma kind.Comma = refl
same kind.Comma _ = refl
same kind.ParenOpen kind.ParenOpen = refl
same kind.ParenOpen _ = refl
same kind.ParenClose kind.ParenClose = refl
same kind.ParenClose _ = refl
same kind.BracketOpen kind.BracketOpen = refl
same kind.BracketOpen _ = refl
same kind.BracketClose kind.BracketClose = refl
same kind.BracketClose _ = refl
