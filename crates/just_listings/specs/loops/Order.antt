-- What private functions say beside `Order.antt`.
use Rattle.std.specs.Borrow.{Bor}
use Rattle.just_listings.specs.declared.order.Place.{Place}
use Rattle.just_listings.specs.declared.order.Placed.{Placed}

abbrev pub placed_at : {T : Type 0} → Placed T → Place
placed_at p = p.place

abbrev pub item_behind : {X : Type 0} → Placed (Bor X) → X
item_behind p = p.item.now
