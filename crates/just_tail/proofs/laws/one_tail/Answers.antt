use Rattle.just_tail.proofs.Once.{tail_once}
use Rattle.just_tail.proofs.laws.one_tail.Goals as goal

pub returns : goal.returns
returns c = tail_once
