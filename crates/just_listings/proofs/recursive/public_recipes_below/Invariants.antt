use Rattle.std.proofs.Common.{take}
use Rattle.just_listings.specs.Joined.{AreHadInTurn}
use Rattle.just_listings.specs.Order.{referents}
use Rattle.just_listings.specs.Public.{ArePublicRecipes}
use Rattle.just_listings.proofs.recursive.public_recipes_below.Given as goal

abbrev pub invariant-loop-at : goal.invariant-loop-at
invariant-loop-at l = AreHadInTurn (ArePublicRecipes l.unsorted l.recipes) (referents (take l.at l.modules.items)) (referents l.found.items)
