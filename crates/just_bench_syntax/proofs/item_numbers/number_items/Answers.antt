use Rattle.std.proofs.Common.{◌≡◌, ◌<◌, ◌∙◌, ap, sym, refl, length, set, drop, ◌+◌, arith}
use Rattle.std.proofs.Math.Seq.{map-set_same}
use Rattle.std.proofs.lemmas.List.{append-nil, length-set, take_more_set}
use Rattle.std.proofs.lemmas.List.Elements.{All-nil, All-push, All-rest}
use Rattle.std.proofs.lemmas.Grind.{flat_map-append}
use Rattle.just_parts.specs.Bare.{bare_item}
use Rattle.just_parts.specs.Syntax.{ItemCameBy, item_numbers, numbers_of_items}
use Rattle.just_bench_syntax.proofs.Numbers.{counted_rest, first, map_all, numbered_next, numbered_none, rest}
use Rattle.just_bench_syntax.proofs.item_numbers.number_items.Goals as goal

pub loop-place-init : goal.loop-place-init
loop-place-init c = record {
  count = refl;
  bare = map_all bare_item c.args.items.now.items c.requires;
  left = c.requires;
  source = All-nil (ItemCameBy c.args.source.now);
  numbered = numbered_none c.args.numerator.now;
  spent = refl;
  onward = omega arith;
}

pub number_item-requires : goal.number_item-requires
number_item-requires c =
    first (λ i. bare_item i ≡ i) c.loop-place.items.items c.loop-place.place c.index_mut.result.now (omega arith) c.index_mut.ensures.value c.loop-place.invariant.left

pub loop-place-preserved : goal.loop-place-preserved
loop-place-preserved c =
    let xs = c.loop-place.items.items in
    let k = c.loop-place.place in
    let old = c.index_mut.result.now in
    let new = c.number_item.new.item in
    let within : k < length xs = omega arith in
    let was : bare_item old ≡ old = first (λ i. bare_item i ≡ i) xs k old within c.index_mut.ensures.value c.loop-place.invariant.left in
    let rests = rest xs k old new within c.index_mut.ensures.value in
    record {
      count = length-set xs k new ∙ c.loop-place.invariant.count;
      bare = map-set_same bare_item xs k new old (c.in_ok-number_item.ensures.bare ∙ sym was ∙ ap bare_item c.index_mut.ensures.value) ∙ c.loop-place.invariant.bare;
      left = All-rest (λ i. bare_item i ≡ i) old (drop (k + 1) (set xs k new)) (drop k xs) rests c.loop-place.invariant.left;
      source = rw (take_more_set xs k new within) (All-push (ItemCameBy c.args.source.now) _ new c.loop-place.invariant.source c.in_ok-number_item.ensures.source);
      numbered = numbered_next numbers_of_items (flat_map-append item_numbers) c.args.numerator.now xs k new c.loop-place.numerator c.number_item.new.numerator within c.loop-place.invariant.numbered
          (rw (append-nil (item_numbers new)) c.in_ok-number_item.ensures.numbered);
      spent = omega (arith, c.loop-place.invariant.spent, c.in_ok-number_item.ensures.spent, counted_rest xs k old new within c.index_mut.ensures.value);
      onward = omega arith;
    }
