use Rattle.just_justfile.proofs.Leading.{resolved_held}
use Rattle.just_justfile.proofs.laws.resolves_to_held.Goals as goal

pub returns : goal.returns
returns c = resolved_held
