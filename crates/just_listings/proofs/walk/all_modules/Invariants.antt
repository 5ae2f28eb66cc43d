use Rattle.std.proofs.Common.{◌≡◌, take}
use Rattle.just_listings.specs.Order.{referents}
use Rattle.just_listings.proofs.walk.all_modules.Given as goal

abbrev pub invariant-loop-inner : goal.invariant-loop-inner
invariant-loop-inner l = referents l.all.items ≡ take l.inner-index l.modules
