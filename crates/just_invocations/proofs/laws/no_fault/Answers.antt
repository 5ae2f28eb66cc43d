use Rattle.just_invocations.proofs.Faults.{split_no_fault}
use Rattle.just_invocations.proofs.laws.no_fault.Goals as goal

pub returns : goal.returns
returns c = split_no_fault
