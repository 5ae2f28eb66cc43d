use Rattle.std.proofs.Common.{◌≡◌, drop}
use Rattle.just_evaluate.specs.Destination.{destination_from}
use Rattle.just_evaluate.specs.loops.Steps.{IsStepOrdered, destination_by}
use Rattle.just_evaluate.proofs.destination.walk.Given as goal

abbrev pub invariant-loop-at : goal.invariant-loop-at
invariant-loop-at l = record {
  goes_on : destination_from l.root l.root l.components ≡ destination_by l.root (drop l.at l.components) l.place;
  ordered : IsStepOrdered l.place;
}
