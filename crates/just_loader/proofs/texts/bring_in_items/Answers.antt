use Rattle.std.proofs.Common.{◌<◌, ◌∙◌, length, arith}
use Rattle.std.proofs.lemmas.List.{length-set}
use Rattle.just_loader.specs.loops.Reading.{brought_in}
use Rattle.just_loader.proofs.WithPaths.{half_more}
use Rattle.just_loader.proofs.texts.bring_in_items.Goals as goal

pub loop-place-preserved : goal.loop-place-preserved
loop-place-preserved c =
    let within : c.loop-place.place < length c.args.items.now.items = omega (arith, c.loop-place-test.true, c.len-place-end.ensures) in
    record {
      count = length-set c.loop-place.items.items c.loop-place.place c.bring_in_item.new.item ∙ c.loop-place.invariant.count;
      made = half_more (brought_in c.args.source.now) c.args.items.now.items c.loop-place.place c.loop-place.items.items c.index_mut.result.now c.bring_in_item.new.item within c.loop-place.invariant.made c.index_mut.ensures.value c.in_ok-bring_in_item.ensures;
    }
