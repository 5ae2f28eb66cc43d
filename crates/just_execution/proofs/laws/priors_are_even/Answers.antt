use Rattle.just_execution.proofs.Even.{leaves-even}
use Rattle.just_execution.proofs.laws.priors_are_even.Goals as goal

pub returns : goal.returns
returns c = λ scene f n tops alike. leaves-even f alike scene n tops
