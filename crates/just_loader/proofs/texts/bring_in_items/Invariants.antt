use Rattle.std.proofs.Common.{◌≡◌, length}
use Rattle.just_loader.specs.loops.Reading.{brought_in}
use Rattle.just_loader.proofs.WithPaths.{half}
use Rattle.just_loader.proofs.texts.bring_in_items.Given as goal

abbrev pub invariant-loop-place : goal.invariant-loop-place
invariant-loop-place l = record {
  count : length l.items.items ≡ length l.initial.items.items;
  made : l.items.items ≡ half (brought_in l.source) l.initial.items.items l.place;
}
