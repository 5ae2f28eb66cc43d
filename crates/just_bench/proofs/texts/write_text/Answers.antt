use Rattle.std.proofs.Common.{◌+◌, arith, length-drop, subst}
use Rattle.just_bench.specs.Writing.{GetsBeginning}
use Rattle.just_bench.proofs.Begun.{begun_kept, begun_take, taken_more}
use Rattle.just_bench.proofs.texts.write_text.Goals as goal

pub loop-at-preserved : goal.loop-at-preserved
loop-at-preserved g c = record {
  within = grind (arith, length-drop);
  written =
      taken_more (g.W.Write.contents c.args.output.now) (g.W.Write.contents c.loop-at.output) (g.W.Write.contents c.write.new.self) c.as_bytes-bytes.result.now c.loop-at.at c.in_ok-count.count
      c.loop-at.invariant.written c.in_ok-count.ensures.bytes;
}

pub returns-in_err-count-clause-begun : goal.returns-in_err-count-clause-begun
returns-in_err-count-clause-begun g c =
    let old = g.W.Write.contents c.args.output.now in
    let middle = g.W.Write.contents c.loop-at.output in
    let new = g.W.Write.contents c.write.new.self in
    let bytes = c.as_bytes-bytes.result.now in
    subst (GetsBeginning old new) c.as_bytes-bytes.ensures.value (begun_kept old middle new bytes (begun_take old middle c.loop-at.at bytes c.loop-at.invariant.written) c.in_err-count.ensures.bytes)

pub returns-in-0-clause-begun : goal.returns-in-0-clause-begun
returns-in-0-clause-begun g c =
    let old = g.W.Write.contents c.args.output.now in
    let middle = g.W.Write.contents c.loop-at.output in
    let new = g.W.Write.contents c.write.new.self in
    let bytes = c.as_bytes-bytes.result.now in
    let n = c.in_ok-count.count in
    subst (GetsBeginning old new) c.as_bytes-bytes.ensures.value
    (begun_take old new (c.loop-at.at + n) bytes (taken_more old middle new bytes c.loop-at.at n c.loop-at.invariant.written c.in_ok-count.ensures.bytes))
