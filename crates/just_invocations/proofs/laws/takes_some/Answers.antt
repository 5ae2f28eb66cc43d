use Rattle.just_invocations.proofs.Unique.{invokes_takes}
use Rattle.just_invocations.proofs.laws.takes_some.Goals as goal

pub returns : goal.returns
returns c = invokes_takes
