use Rattle.just_tail.proofs.Readings.{reading_once}
use Rattle.just_tail.proofs.laws.one_reading.Goals as goal

pub returns : goal.returns
returns c = reading_once
