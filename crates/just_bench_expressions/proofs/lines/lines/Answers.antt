use Rattle.std.proofs.Common.{arith, ◌≡◌, ◌<◌, length, get_or}
use Rattle.std.proofs.lemmas.Grind.{common_steps}
use Rattle.just_bench_expressions.proofs.Cuts.{Cut-start, Cut-line, Cut-last}
use Rattle.just_bench_expressions.proofs.lines.lines.Goals as goal

pub loop-end-init : goal.loop-end-init
loop-end-init c = Cut-start c.args.text.now c.new-all.result c.new-all.ensures c.utf8.text

pub loop-end-preserved : goal.loop-end-preserved
loop-end-preserved c =
    let left : c.loop-end.end < length c.args.text.now = grind (arith, common_steps) in
    let newline : get_or c.args.text.now c.loop-end.end 0 ≡ 10 = grind (arith, common_steps) in
    Cut-line c.args.text.now c.loop-end.all c.loop-end.start c.loop-end.end c.push.new.self c.utf8.text c.loop-end.invariant left newline (grind (arith, common_steps))

pub returns-clause-lines : goal.returns-clause-lines
returns-clause-lines c =
    (Cut-last c.args.text.now c.loop-end.all c.loop-end.start c.loop-end.end c.push-2.new.self c.loop-end.invariant (grind (arith, common_steps)) (grind (arith, common_steps))).0
