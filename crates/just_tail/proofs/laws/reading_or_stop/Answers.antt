use Rattle.just_tail.proofs.Decides.{reading_or_stop}
use Rattle.just_tail.proofs.laws.reading_or_stop.Goals as goal

pub returns : goal.returns
returns c = reading_or_stop
