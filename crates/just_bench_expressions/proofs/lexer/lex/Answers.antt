use Rattle.std.proofs.Common.{arith, ◌≡◌, ◌<◌, ◌≤◌, get_or, take, drop, length, Some, false}
use Rattle.std.proofs.lemmas.Grind.{common_steps}
use Rattle.just_bench_expressions.specs.Lexemes.{first, is_blank, TakesLexeme}
use Rattle.just_bench_expressions.proofs.Lexing.{Lexed-start, Lexed-push, last_of_cut}
use Rattle.just_bench_expressions.proofs.Quoting.{read_quoted}
use Rattle.just_bench_expressions.proofs.lexer.lex.Goals as goal

pub loop-at-init : goal.loop-at-init
loop-at-init c = Lexed-start c.args.path.now c.args.text.now c.args.line.now c.args.start c.args.end c.new-found.result c.new-found.ensures c.requires.ordered c.requires.within

pub loop-at-preserved : goal.loop-at-preserved
loop-at-preserved c =
    let line = c.args.line.now in
    let bytes = c.split_at.result.0.now in
    let cut : bytes ≡ take c.args.end line.text = grind (arith, common_steps) in
    let left : c.loop-at.at < length bytes = grind (arith, common_steps) in
    let sharp : is_blank (get_or bytes c.loop-at.at 0) ≡ false = grind (arith, common_steps) in
    let is : first (drop c.loop-at.at bytes) ≡ Some (c.in-Some.kind, c.in-Some.size) = grind (arith, common_steps) in
    let takes : TakesLexeme (drop c.loop-at.at bytes) c.in-Some.size = grind (arith, common_steps) in
    Lexed-push c.args.path.now c.args.text.now line c.args.start c.args.end c.loop-at.found c.loop-at.at c.in-Some.kind c.in-Some.size c.push.new.self bytes cut c.loop-at.invariant left sharp is takes
    (grind (arith, common_steps))

pub token-requires-clause-last : goal.token-requires-clause-last
token-requires-clause-last c =
    let line = c.args.line.now in
    let bytes = c.split_at.result.0.now in
    let cut : bytes ≡ take c.args.end line.text = grind (arith, common_steps) in
    let left : c.loop-at.at < length bytes = grind (arith, common_steps) in
    let takes : TakesLexeme (drop c.loop-at.at bytes) c.in-Some.size = grind (arith, common_steps) in
    last_of_cut line.text c.args.end bytes c.loop-at.at c.in-Some.size cut left takes

pub returns-clause-quoted : goal.returns-clause-quoted
returns-clause-quoted c =
    let line = c.args.line.now in
    let none : length (take c.args.end line.text) ≤ c.loop-at.at = grind (arith, common_steps) in
    read_quoted c.args.path.now c.args.text.now line c.args.start c.args.end c.loop-at.found c.loop-at.at c.requires.line c.loop-at.invariant none
