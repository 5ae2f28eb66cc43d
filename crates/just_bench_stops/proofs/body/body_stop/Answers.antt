use Rattle.std.proofs.Common.{◌≡◌, ◌<◌, None, arith, length}
use Rattle.std.proofs.lemmas.Grind.{common_steps}
use Rattle.just_bench_lines.specs.Body.{part}
use Rattle.just_bench_stops.proofs.BadParts.{parts_stop}
use Rattle.just_bench_stops.proofs.body.body_stop.Goals as goal

pub returns-in-None : goal.returns-in-None
returns-in-None c =
    let at = c.loop-at.at in
    let within : at < length c.args.line.now.text = grind (arith, common_steps) in
    let is : None ≡ part c.args.path.now c.args.text.now c.args.line.now at = grind (arith, common_steps) in
    parts_stop c.args.path.now c.args.text.now c.args.line.now c.args.start at c.interpolation_stop.result c.loop-at.invariant.read within is c.interpolation_stop.ensures
