use Rattle.std.proofs.Common.{◌≡◌, ℕ, List, length, map}
use Rattle.just_loader.specs.Loaded.{with_path}
use Rattle.just_loader.specs.Reached.{World, link}
use Rattle.just_loader.specs.loops.Scanned.{ArePlacesOf, paths_in}
use Rattle.just_loader.proofs.WithPaths.{half}
use Rattle.just_loader.proofs.files.link_items.Given as goal

abbrev pub invariant-loop-place : goal.invariant-loop-place
invariant-loop-place l = record {
  count : length l.items.items ≡ length l.initial.items.items;
  made : (w : World) (folder : List ℕ) → ArePlacesOf (paths_in l.scan.files.items) (map (link w folder) l.initial.items.items) l.targets → l.items.items ≡ half (with_path w folder) l.initial.items.items l.place;
}
