use Rattle.just_tail.proofs.Decides.{tail_or_fault}
use Rattle.just_tail.proofs.laws.tail_or_fault.Goals as goal

pub returns : goal.returns
returns c = tail_or_fault
