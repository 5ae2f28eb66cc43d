use Rattle.just_invocations.proofs.Advancing.{Stands}
use Rattle.just_invocations.proofs.walk.walk.Given as goal

abbrev pub invariant-loop-at : goal.invariant-loop-at
invariant-loop-at l = Stands l.root l.recipes l.one l.names l.at l.place
