use Rattle.just_tail.proofs.Once.{fault_once}
use Rattle.just_tail.proofs.laws.one_fault.Goals as goal

pub returns : goal.returns
returns c = fault_once
