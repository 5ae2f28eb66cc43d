use Rattle.std.proofs.Common.{arith}
use Rattle.just_module_headers.proofs.Joining.{all_more}
use Rattle.just_module_headers.proofs.join.join_each.Goals as goal

pub loop-place-preserved : goal.loop-place-preserved
loop-place-preserved c = record {
  joined = c.in_ok-join.ensures.joined;
  each = all_more _ _ c.args.places.now c.loop-place.place-index (omega arith) c.in_ok-join.ensures.stays c.in_ok-join.ensures.here c.loop-place.invariant.each;
  stays = λ a j. c.in_ok-join.ensures.stays a (c.loop-place.invariant.stays a j);
}
