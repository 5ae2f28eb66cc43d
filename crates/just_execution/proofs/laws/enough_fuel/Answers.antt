use Rattle.std.proofs.Common.{length}
use Rattle.just_execution.specs.TaskInteractions.{interactions_of}
use Rattle.just_execution.proofs.RunStates.{below-more}
use Rattle.just_execution.proofs.TaskInteractions.{leaves-lower}
use Rattle.just_execution.proofs.Whole.{more-run}
use Rattle.just_execution.proofs.laws.enough_fuel.Goals as goal

pub returns : goal.returns
returns c = λ scene n ordered enough f ts below.
    more-run (interactions_of scene) (leaves-lower scene ordered) f n (length scene.recipes) ts (below-more (length scene.recipes) n ts enough below) below
