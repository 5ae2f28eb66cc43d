use Rattle.std.proofs.Common.{◌≡◌, map, take}
use Rattle.std.specs.HashSet.{contains}
use Rattle.std.specs.List.{list_any}
use Rattle.std.specs.Str.{bytes_eq}
use Rattle.just_names.specs.Texts.{Text}
use Rattle.just_listings.specs.Groups.{firsts}
use Rattle.just_listings.specs.Order.{placed_item}
use Rattle.just_listings.proofs.groups.first_groups.Given as goal

abbrev pub invariant-loop-group : goal.invariant-loop-group
invariant-loop-group l = record {
  first : l.texts.items ≡ firsts (map placed_item (take l.group-index l.groups));
  met : (text : Text) → contains bytes_eq l.seen text ≡ list_any (bytes_eq text) (map placed_item (take l.group-index l.groups));
}
