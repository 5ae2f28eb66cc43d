use Rattle.std.proofs.Common.{◌<◌, ◌∙◌, None, ap, get_or, length, map, arith}
use Rattle.std.proofs.lemmas.List.{length-map, length-set}
use Rattle.just_loader.specs.Loaded.{with_path}
use Rattle.just_loader.specs.Reached.{link}
use Rattle.just_loader.specs.loops.Scanned.{paths_in}
use Rattle.just_loader.proofs.Scanning.{places_count}
use Rattle.just_loader.proofs.WithPaths.{paths_more, place_here, place_inside}
use Rattle.just_loader.proofs.files.link_items.Goals as goal

pub offset_bounds-targets-place : goal.offset_bounds-targets-place
offset_bounds-targets-place c =
    let L = link c.requires.0 c.requires.1 in
    let count = places_count (paths_in c.args.scan.now.files.items) (map L c.args.items.now.items) c.args.targets.now c.requires.2 ∙ length-map c.args.items.now.items L in
    omega (arith, c.loop-place-test.true, c.len-place-end.ensures, count)

pub bounds-targets-place : goal.bounds-targets-place
bounds-targets-place c =
    let L = link c.requires.0 c.requires.1 in
    let count = places_count (paths_in c.args.scan.now.files.items) (map L c.args.items.now.items) c.args.targets.now c.requires.2 ∙ length-map c.args.items.now.items L in
    omega (arith, c.loop-place-test.true, c.len-place-end.ensures, count)

pub link_item-requires : goal.link_item-requires
link_item-requires c =
    let L = link c.requires.0 c.requires.1 in
    let within : c.loop-place.place < length c.args.items.now.items = omega (arith, c.loop-place-test.true, c.len-place-end.ensures) in
    let here = c.index_mut.ensures.value ∙ ap (λ xs. get_or xs c.loop-place.place c.index_mut.result.now) (c.loop-place.invariant.made c.requires.0 c.requires.1 c.requires.2) in
    place_inside c.args.scan.now (L c.index_mut.result.now) (get_or c.args.targets.now c.loop-place.place None)
    (place_here (paths_in c.args.scan.now.files.items) L (with_path c.requires.0 c.requires.1) c.args.items.now.items c.args.targets.now c.loop-place.place c.index_mut.result.now c.requires.2 within here)

pub loop-place-preserved : goal.loop-place-preserved
loop-place-preserved c =
    let within : c.loop-place.place < length c.args.items.now.items = omega (arith, c.loop-place-test.true, c.len-place-end.ensures) in
    record {
      count = length-set c.loop-place.items.items c.loop-place.place c.link_item.new.item ∙ c.loop-place.invariant.count;
      made = λ w folder places.
          paths_more w c.args.scan.now folder c.args.items.now.items c.args.targets.now c.loop-place.place c.loop-place.items.items c.index_mut.result.now c.link_item.new.item
          places within (c.loop-place.invariant.made w folder places) c.index_mut.ensures.value c.in_ok-link_item.ensures;
    }
