use Rattle.std.proofs.Common.{◌≡◌, ◌++◌, flat_map, take}
use Rattle.just_listings.specs.Groups.{recipe_groups}
use Rattle.just_listings.specs.Order.{referents}
use Rattle.just_listings.proofs.groups.add_groups_of_recipes.Given as goal

abbrev pub invariant-loop-at : goal.invariant-loop-at
invariant-loop-at l = l.groups.items ≡ l.initial.groups.items ++ flat_map recipe_groups (referents (take l.at l.found.items))
