use Rattle.std.proofs.Common.{◌≡◌, ◌++◌, take}
use Rattle.just_listings.specs.Groups.{all_at, groups_said}
use Rattle.just_listings.specs.Public.{recipe_place}
use Rattle.just_listings.proofs.groups.add_recipe_groups.Given as goal

abbrev pub invariant-loop-named : goal.invariant-loop-named
invariant-loop-named l = l.groups.items ≡ l.initial.groups.items ++ all_at (recipe_place l.recipe) (groups_said (take l.named-index l.recipe.attributes))
