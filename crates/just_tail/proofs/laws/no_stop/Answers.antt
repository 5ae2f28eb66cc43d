use Rattle.just_tail.proofs.Readings.{reading_no_stop}
use Rattle.just_tail.proofs.laws.no_stop.Goals as goal

pub returns : goal.returns
returns c = reading_no_stop
