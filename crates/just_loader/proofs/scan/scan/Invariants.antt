use Rattle.std.proofs.Common.{◌≡◌, ◌≤◌, ◌^◌, ◌-◌, IsTrue, length}
use Rattle.std.specs.Map.{keys_of}
use Rattle.just_loader.specs.loops.Numbering.{AreFound, AreNumbered, paths_of}
use Rattle.just_loader.specs.Reached.{world_of}
use Rattle.just_loader.specs.loops.Reading.{AreRead}
use Rattle.just_loader.proofs.WholeScans.{ScannedSoFar}
use Rattle.just_loader.proofs.scan.scan.Given as goal

abbrev pub invariant-loop-found : goal.invariant-loop-found
invariant-loop-found g l = record {
  found : AreFound l.sources l.found;
  numbered : AreNumbered l.names;
  so_far : ScannedSoFar (world_of l.sources l.config (g.S.Syntax.answers l.syntax) l.root)
      (paths_of l.found.files.items) l.names.names.items l.files.items l.rows.items;
  count : length l.texts.asts.items ≡ length l.files.items;
  read : IsTrue l.is_whole → AreRead (g.S.Syntax.answers l.syntax) l.files.items l.texts;
  few : l.texts.numerator ≤ 2 ^ 64;
}

abbrev pub decreases-loop-found : goal.decreases-loop-found
decreases-loop-found g l = length (keys_of l.sources) - length l.files.items
