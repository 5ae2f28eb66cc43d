use Rattle.std.proofs.Common.{take}
use Rattle.just_listings.proofs.Grouping.{AreTexts}
use Rattle.just_listings.proofs.groups.recipe_groups.Given as goal

abbrev pub invariant-loop-named : goal.invariant-loop-named
invariant-loop-named l = AreTexts (take l.named-index l.recipe.attributes) l.groups.keys
