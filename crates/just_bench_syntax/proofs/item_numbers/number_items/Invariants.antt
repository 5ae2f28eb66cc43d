use Rattle.std.proofs.Common.{◌≡◌, ◌+◌, ◌≤◌, length, map, take, drop}
use Rattle.std.specs.List.{All}
use Rattle.just_parts.specs.Bare.{bare_item}
use Rattle.just_parts.specs.Syntax.{ItemCameBy, numbers_of_items}
use Rattle.just_bench_syntax.specs.Numbering.{numbers_counted}
use Rattle.just_bench_syntax.specs.loops.Numbering.{AreNumberedInTurn}
use Rattle.just_bench_syntax.proofs.item_numbers.number_items.Given as goal

abbrev pub invariant-loop-place : goal.invariant-loop-place
invariant-loop-place l = record {
  count : length l.items.items ≡ length l.initial.items.items;
  bare : map bare_item l.items.items ≡ l.initial.items.items;
  left : All (λ i. bare_item i ≡ i) (drop l.place l.items.items);
  source : All (ItemCameBy l.source) (take l.place l.items.items);
  numbered : AreNumberedInTurn l.initial.numerator (numbers_of_items (take l.place l.items.items)) l.numerator;
  spent : l.numerator + numbers_counted (drop l.place l.items.items) ≡ l.initial.numerator + numbers_counted l.initial.items.items;
  onward : l.initial.numerator ≤ l.numerator;
}
