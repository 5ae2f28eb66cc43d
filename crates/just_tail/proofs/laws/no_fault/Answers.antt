use Rattle.just_tail.proofs.Once.{tail_no_fault}
use Rattle.just_tail.proofs.laws.no_fault.Goals as goal

pub returns : goal.returns
returns c = tail_no_fault
