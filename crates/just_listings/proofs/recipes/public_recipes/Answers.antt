use Rattle.std.specs.List.{filter}
use Rattle.just_recipe_run.specs.Calls.{is_public}
use Rattle.just_listings.specs.Public.{own_recipes, recipe_place}
use Rattle.just_listings.proofs.Ordering.{listed_in_order}
use Rattle.just_listings.proofs.recipes.public_recipes.Goals as goal

pub returns : goal.returns
returns c =
    listed_in_order recipe_place c.args.unsorted (filter is_public (own_recipes c.args.recipes.now c.args.justfile.now)) c.in_ok-placed.placed.items c.in_ok-ordered.ordered.items c.in_ok-found.found.items
    c.in_ok-placed.ensures.public c.in_ok-placed.ensures.places c.in_ok-ordered.ensures c.in_ok-found.ensures
