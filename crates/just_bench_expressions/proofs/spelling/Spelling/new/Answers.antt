use Rattle.std.proofs.Common.{arith, ◌≡◌, ◌<◌, ◌++◌, length, get_or, subst}
use Rattle.std.specs.String.{string_bytes}
use Rattle.std.specs.Str.{IsUtf8}
use Rattle.std.proofs.lemmas.Grind.{common_steps}
use Rattle.just_names.specs.Token.{lexeme}
use Rattle.just_bench_expressions.specs.Spelling.{gap, IsSpelling}
use Rattle.just_bench_expressions.proofs.Spelled.{Spelled, Spelled-start, Spelled-push, Spelled-all}
use Rattle.just_bench_expressions.proofs.spelling.Spelling.new.Goals as goal

pub loop-lexeme-init : goal.loop-lexeme-init
loop-lexeme-init c = Spelled-start c.as_slice-lexeme-items.result.now (string_bytes c.new-text.result) c.new-ends.result c.new-text.ensures.bytes c.new-ends.ensures

pub loop-lexeme-preserved : goal.loop-lexeme-preserved
loop-lexeme-preserved c =
    let ls = c.as_slice-lexeme-items.result.now in
    let l = c.lexeme-item.result in
    let left : c.loop-lexeme.lexeme-index < length ls = grind (arith, common_steps) in
    let is : l ≡ get_or ls c.loop-lexeme.lexeme-index l = c.lexeme-item.is in
    let utf8 : IsUtf8 (lexeme l.token) = subst IsUtf8 c.lexeme.ensures c.lexeme.utf8 in
    let longer : string_bytes c.push_str-in-loop-lexeme.new.self ≡ string_bytes c.loop-lexeme.text ++ gap c.loop-lexeme.before l.kind ++ lexeme l.token = grind (arith, common_steps) in
    Spelled-push ls c.loop-lexeme.lexeme-index l (string_bytes c.loop-lexeme.text) c.loop-lexeme.ends c.loop-lexeme.before (string_bytes c.push_str-in-loop-lexeme.new.self) c.push.new.self
    c.loop-lexeme.invariant left is utf8 longer (grind (arith, common_steps))

pub invariant_of-result : goal.invariant_of-result
invariant_of-result c =
    let ls = c.as_slice-lexeme-items.result.now in
    let whole : c.loop-lexeme.lexeme-index ≡ length ls = grind (arith, common_steps) in
    let all : Spelled ls (length ls) (string_bytes c.loop-lexeme.text) c.loop-lexeme.ends c.loop-lexeme.before = rw (← whole) c.loop-lexeme.invariant in
    let spelled : IsSpelling ls (string_bytes c.loop-lexeme.text) c.loop-lexeme.ends = Spelled-all ls (string_bytes c.loop-lexeme.text) c.loop-lexeme.ends c.loop-lexeme.before all (rw c.as_slice-lexeme-items.ensures c.requires) in
    rw (c.in_ok-text.ensures, ← c.as_slice-lexeme-items.ensures) spelled
