use Rattle.std.proofs.Common.{◌≡◌, ◌++◌, drop}
use Rattle.just_tail.specs.Options.{positions_from}
use Rattle.just_tail.proofs.plan.positions.Given as goal

abbrev pub invariant-loop-place : goal.invariant-loop-place
invariant-loop-place l = l.places.items ++ positions_from l.place (drop l.place l.parameters) ≡ positions_from 0 l.parameters
