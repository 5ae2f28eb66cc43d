use Rattle.std.proofs.Common.{◌≡◌, ◌+◌, Some, arith, drop}
use Rattle.std.proofs.lemmas.Grind.{common_steps}
use Rattle.just_bench_lines.specs.Body.{close_at}
use Rattle.just_bench_lines.proofs.Bounds.{closed_ends}
use Rattle.just_bench_lines.proofs.body.interpolation_at.Goals as goal

pub returns-in-Some-clause-further : goal.returns-in-Some-clause-further
returns-in-Some-clause-further c =
    let is : Some c.in-Some.size ≡ close_at (drop (c.args.start + 2) c.args.line.now.text) = grind (arith, common_steps) in
    closed_ends c.args.text.now c.args.line.now c.args.start c.in-Some.size c.interpolation.result c.utf8.text c.requires.line c.requires.opens is c.interpolation.ensures.further
