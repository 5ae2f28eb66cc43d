use Rattle.just_needs.proofs.Needed.{one-set, some-from, some-sets}
use Rattle.just_needs.proofs.laws.needs_have_sets.Goals as goal

pub returns-clause-needs : goal.returns-clause-needs
returns-clause-needs c = some-sets

pub returns-clause-one : goal.returns-clause-one
returns-clause-one c = one-set

pub returns-clause-from : goal.returns-clause-from
returns-clause-from c = some-from
