use Rattle.std.proofs.Common.{arith, ◌≡◌, ◌<◌, ◌≤◌, get_or, take, drop, length, Some, false, true}
use Rattle.std.proofs.lemmas.Grind.{common_steps}
use Rattle.just_bench_expressions.specs.Lexemes.{first, is_blank, TakesLexeme}
use Rattle.just_bench_expressions.proofs.Columns.{lexed_blank, lexed_past}
use Rattle.just_bench_expressions.proofs.lexer.lexed_to.Goals as goal

pub loop-at-preserved-then-is_blank : goal.loop-at-preserved-then-is_blank
loop-at-preserved-then-is_blank c =
    let line = c.args.line.now in
    let bytes = c.split_at.result.0.now in
    let cut : bytes ≡ take c.args.end line.text = grind (arith, common_steps) in
    let left : c.loop-at.at < length bytes = grind (arith, common_steps) in
    let white : is_blank (get_or bytes c.loop-at.at 0) ≡ true = grind (arith, common_steps) in
    lexed_blank c.args.text.now line c.args.start c.args.end c.loop-at.at bytes c.utf8.text c.requires.line cut c.loop-at.invariant left white

pub loop-at-preserved : goal.loop-at-preserved
loop-at-preserved c =
    let line = c.args.line.now in
    let bytes = c.split_at.result.0.now in
    let cut : bytes ≡ take c.args.end line.text = grind (arith, common_steps) in
    let left : c.loop-at.at < length bytes = grind (arith, common_steps) in
    let sharp : is_blank (get_or bytes c.loop-at.at 0) ≡ false = grind (arith, common_steps) in
    let is : Some (c.in-Some.field-0-0, c.in-Some.size) ≡ first (drop c.loop-at.at bytes) = grind (arith, common_steps) in
    let takes : TakesLexeme (drop c.loop-at.at bytes) c.in-Some.size = grind (arith, common_steps) in
    lexed_past c.args.text.now line c.args.start c.args.end c.loop-at.at bytes c.in-Some.field-0-0 c.in-Some.size c.utf8.text c.requires.line cut c.loop-at.invariant left sharp is takes
