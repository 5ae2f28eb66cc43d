use Rattle.std.proofs.Common.{map, take}
use Rattle.std.specs.List.{Contains}
use Rattle.just_loader.specs.Links.{To, link_in}
use Rattle.just_loader.specs.loops.Numbering.{AreFound, paths_of}
use Rattle.just_loader.specs.loops.Scanned.{ArePlacesOf, Grows}
use Rattle.just_loader.proofs.scan.targets.Given as goal

abbrev pub invariant-loop-item : goal.invariant-loop-item
invariant-loop-item g l = record {
  places : ArePlacesOf (paths_of l.found.files.items) (map (link_in l.sources l.config.home ((g.S.Syntax.answers l.syntax).enabled) l.folder) (take l.item-index l.items)) l.targets.items;
  grows : Grows (λ path. Contains (map (link_in l.sources l.config.home ((g.S.Syntax.answers l.syntax).enabled) l.folder) l.items) (To path)) (paths_of l.initial.found.files.items) (paths_of l.found.files.items);
  found : AreFound l.sources l.found;
}
