use Rattle.std.specs.List.{filter}
use Rattle.just_justfile.specs.declared.justfile.Justfile.{out-Justfile}
use Rattle.just_recipe_run.specs.Calls.{is_public}
use Rattle.just_listings.specs.Public.{is_public_module, module_place, own_recipes, recipe_place}
use Rattle.just_listings.proofs.Sameness.{one_aliases, one_below, one_grouping, one_listing}
use Rattle.just_listings.proofs.laws.has_one_order.Goals as goal

pub returns-clause-recipes : goal.returns-clause-recipes
returns-clause-recipes c unsorted recipes one other j = one_listing recipe_place unsorted (filter is_public (own_recipes recipes j)) one other

pub returns-clause-modules : goal.returns-clause-modules
returns-clause-modules c unsorted j one other = one_listing module_place unsorted (filter is_public_module (out-Justfile j).modules) one other

pub returns-clause-groups : goal.returns-clause-groups
returns-clause-groups c unsorted recipes j one other = one_grouping unsorted recipes j one other

pub returns-clause-recipes_below : goal.returns-clause-recipes_below
returns-clause-recipes_below c unsorted recipes one other root = one_below unsorted recipes root one other

pub returns-clause-aliases_below : goal.returns-clause-aliases_below
returns-clause-aliases_below c unsorted root one other = one_aliases unsorted root one other
