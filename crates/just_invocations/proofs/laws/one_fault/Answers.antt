use Rattle.just_invocations.proofs.Faults.{fault_once}
use Rattle.just_invocations.proofs.laws.one_fault.Goals as goal

pub returns : goal.returns
returns c = fault_once
