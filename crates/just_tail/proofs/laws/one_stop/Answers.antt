use Rattle.just_tail.proofs.Readings.{stop_once}
use Rattle.just_tail.proofs.laws.one_stop.Goals as goal

pub returns : goal.returns
returns c = stop_once
