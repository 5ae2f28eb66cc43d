use Rattle.just_execution.proofs.Scenes.{same-leaves}
use Rattle.just_execution.proofs.laws.scenes_that_agree.Goals as goal

pub returns : goal.returns
returns c = same-leaves
