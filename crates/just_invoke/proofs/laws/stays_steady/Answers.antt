use Rattle.std.proofs.Common.{List, [], ◌∷◌, Option}
use Rattle.just_run_layers.specs.Host.{Answer, KeepsPromises}
use Rattle.just_run_layers.specs.Interactions.{Question, ArePromised}
use Rattle.just_invoke.proofs.laws.stays_steady.Goals as goal

stays : (old new : Question → Option Answer) (f : Question → Answer) (questions : List Question) → KeepsPromises old new → ArePromised old f questions → ArePromised new f questions
stays old new f [] kept steady = tt
stays old new f (q ∷ qs) kept steady = (kept q (f q) steady.0, stays old new f qs kept steady.1)

pub returns : goal.returns
returns c = stays
