use Rattle.std.proofs.Common.{take}
use Rattle.std.specs.List.{All}
use Rattle.just_listings.specs.Order.{referents}
use Rattle.just_listings.proofs.Refusing.{IsAllowed}
use Rattle.just_listings.proofs.unstable.check_unstable.Given as goal

abbrev pub invariant-loop-at : goal.invariant-loop-at
invariant-loop-at l = All (IsAllowed l.allowed) (referents (take l.at l.modules.items))
