use Rattle.std.proofs.Common.{◌≡◌, ◌++◌, flat_map, take}
use Rattle.just_listings.specs.Groups.{module_groups}
use Rattle.just_listings.specs.Order.{referents}
use Rattle.just_listings.proofs.groups.add_groups_of_modules.Given as goal

abbrev pub invariant-loop-at : goal.invariant-loop-at
invariant-loop-at l = l.groups.items ≡ l.initial.groups.items ++ flat_map module_groups (referents (take l.at l.modules.items))
