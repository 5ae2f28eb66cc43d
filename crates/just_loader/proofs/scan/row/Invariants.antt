use Rattle.std.proofs.Common.{take}
use Rattle.just_loader.specs.loops.Numbering.{AreNumbered}
use Rattle.just_loader.specs.loops.Scanned.{AreSteps, Extends}
use Rattle.just_loader.proofs.scan.row.Given as goal

abbrev pub invariant-loop-place : goal.invariant-loop-place
invariant-loop-place l = record {
  steps : AreSteps l.names.names.items (take l.place l.items) (take l.place l.targets) l.row.items;
  extends : Extends l.initial.names.names.items l.names.names.items;
  numbered : AreNumbered l.names;
}
