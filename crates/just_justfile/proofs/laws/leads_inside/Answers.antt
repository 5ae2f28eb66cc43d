use Rattle.just_justfile.proofs.Leading.{along_walk, stands_along, walk_along}
use Rattle.just_justfile.proofs.laws.leads_inside.Goals as goal

pub returns-clause-along : goal.returns-clause-along
returns-clause-along c = stands_along

pub returns-clause-walked : goal.returns-clause-walked
returns-clause-walked c = walk_along

pub returns-clause-led : goal.returns-clause-led
returns-clause-led c = along_walk
