use Rattle.std.proofs.Common.{◌≡◌, flat_map, map, take}
use Rattle.just_listings.specs.Order.{referents}
use Rattle.just_listings.specs.Public.{alias_behind, aliases_shown}
use Rattle.just_listings.proofs.recursive.public_aliases_below.Given as goal

abbrev pub invariant-loop-at : goal.invariant-loop-at
invariant-loop-at l = map alias_behind l.found.items ≡ flat_map aliases_shown (referents (take l.at l.modules.items))
