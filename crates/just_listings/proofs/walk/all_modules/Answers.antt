use Rattle.std.proofs.Common.{refl}
use Rattle.just_listings.proofs.Listed.{taken_more}
use Rattle.just_listings.proofs.walk.all_modules.Goals as goal

pub loop-inner-preserved : goal.loop-inner-preserved
loop-inner-preserved c =
    taken_more c.as_slice-modules.result.now c.loop-inner.inner-index c.inner-item.result c.loop-inner.all.items c.push.new.self.items _ c.loop-inner-test.true c.inner-item.is refl c.in_ok-push.ensures.items c.loop-inner.invariant
