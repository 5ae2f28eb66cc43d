use Rattle.just_execution.specs.TaskInteractions.{interactions_of}
use Rattle.just_execution.proofs.FirstAskings.{first-asked}
use Rattle.just_execution.proofs.TaskInteractions.{leaves-lower}
use Rattle.just_execution.proofs.laws.blocks_are_first_asked.Goals as goal

pub returns : goal.returns
returns c = λ scene f n ts ordered below even. first-asked (interactions_of scene) (leaves-lower scene ordered) f n ts below even
