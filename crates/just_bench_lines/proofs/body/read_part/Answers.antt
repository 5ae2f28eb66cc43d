use Rattle.std.proofs.Common.{◌≡◌, ◌<◌, Some, arith, drop}
use Rattle.std.proofs.lemmas.Grind.{common_steps}
use Rattle.just_bench_lines.specs.Body.{twice_at}
use Rattle.just_bench_lines.proofs.Bounds.{text_ends}
use Rattle.just_bench_lines.proofs.body.read_part.Goals as goal

pub text_to-requires-clause-ends : goal.text_to-requires-clause-ends
text_to-requires-clause-ends c =
    let is : Some c.in-Some.size ≡ twice_at 123 (drop c.args.start c.args.line.now.text) = grind (arith, common_steps) in
    let some : 0 < c.in-Some.size = grind (arith, common_steps) in
    text_ends c.args.text.now c.args.line.now c.args.start c.in-Some.size c.requires.line is some
