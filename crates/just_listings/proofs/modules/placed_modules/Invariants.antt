use Rattle.std.proofs.Common.{◌≡◌, map, take}
use Rattle.std.specs.List.{All, filter}
use Rattle.just_listings.specs.loops.Order.{item_behind}
use Rattle.just_listings.specs.Public.{is_public_module, module_place}
use Rattle.just_listings.proofs.modules.placed_modules.Given as goal

abbrev pub invariant-loop-inner : goal.invariant-loop-inner
invariant-loop-inner l = record {
  public : map item_behind l.placed.items ≡ filter is_public_module (take l.inner-index l.modules);
  places : All (λ it. it.place ≡ module_place it.item.now) l.placed.items;
}
