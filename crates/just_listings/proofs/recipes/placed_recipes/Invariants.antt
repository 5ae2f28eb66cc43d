use Rattle.std.proofs.Common.{◌≡◌, map}
use Rattle.std.specs.List.{All, filter}
use Rattle.just_recipe_run.specs.Calls.{is_public}
use Rattle.just_listings.specs.loops.Order.{item_behind}
use Rattle.just_listings.specs.Public.{recipe_place, recipes_named}
use Rattle.just_listings.proofs.recipes.placed_recipes.Given as goal

abbrev pub invariant-loop-key : goal.invariant-loop-key
invariant-loop-key l = record {
  public : map item_behind l.placed.items ≡ filter is_public (recipes_named l.recipes (map (λ key. key.now) l.yielded));
  places : All (λ it. it.place ≡ recipe_place it.item.now) l.placed.items;
}
