use Rattle.just_invocations.proofs.Decides.{split_or_fault}
use Rattle.just_invocations.proofs.laws.split_or_fault.Goals as goal

pub returns : goal.returns
returns c = split_or_fault
