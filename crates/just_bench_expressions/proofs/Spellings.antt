-- The law of spellings.
use Rattle.std.proofs.Common.{◌≡◌, ℕ, List, Bool, Some, IfSome, subst}
use Rattle.std.specs.List.{All}
use Rattle.std.specs.Prelude.{slice_range}
use Rattle.just_ast_expressions.specs.declared.expression.Expression.{Expression}
use Rattle.just_bench_expressions.specs.declared.expressions.Found.{Found}
use Rattle.just_bench_expressions.specs.declared.lexer.Lexeme.{Lexeme}
use Rattle.just_bench_expressions.specs.declared.lines.TextLine.{TextLine}
use Rattle.just_bench_expressions.specs.Expressions.{expression}
use Rattle.just_bench_expressions.specs.Forms.{IsPartOf, spelling}
use Rattle.just_bench_expressions.specs.Lexemes.{HasQuotes, lexemes}
use Rattle.just_bench_expressions.specs.Lines.{IsLineOf}
use Rattle.just_bench_expressions.specs.Spelling.{spell}
use Rattle.just_bench_expressions.proofs.Machine.{IsSound, IsFoundSpelled, expression_spelled}
use Rattle.just_bench_expressions.proofs.Plain.{IsPlain, plain_lexemes}
use Rattle.just_bench_expressions.proofs.Quoting.{sound_lexemes}

spelled_found : (path text : List ℕ) (line : TextLine) (start end at : ℕ) (sums : Bool) (all : List Lexeme) (found : Found)
    → IsLineOf text line → lexemes path text line start end ≡ Some all → expression sums all at ≡ Some found → IsFoundSpelled at all (Some found)
spelled_found path text line start end at sums all found of is here =
    let plain : All IsPlain all = subst (λ o. IfSome o (All IsPlain)) is (plain_lexemes path text line start end of) in
    let quoted : All HasQuotes all = subst (λ o. IfSome o (All HasQuotes)) is (sound_lexemes path text line start end of) in
    let sound : All IsSound all = λ k d h. (plain k d h, quoted k d h) in
    subst (IsFoundSpelled at all) here (expression_spelled at sums all sound)

pub texts_spelled : (path text : List ℕ) (line : TextLine) (start end at : ℕ) (sums : Bool) (all : List Lexeme) (found : Found) (e : Expression)
    → IsLineOf text line → lexemes path text line start end ≡ Some all → expression sums all at ≡ Some found → IsPartOf found.made e → e.text ≡ spelling e
texts_spelled path text line start end at sums all found e of is here = (spelled_found path text line start end at sums all found of is here).0 e

pub lexemes_spelled : (path text : List ℕ) (line : TextLine) (start end at : ℕ) (sums : Bool) (all : List Lexeme) (found : Found)
    → IsLineOf text line → lexemes path text line start end ≡ Some all → expression sums all at ≡ Some found → spell (slice_range all at found.end) ≡ spelling found.made
lexemes_spelled path text line start end at sums all found of is here = (spelled_found path text line start end at sums all found of is here).1
