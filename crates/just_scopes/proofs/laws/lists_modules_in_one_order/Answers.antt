use Rattle.just_scopes.proofs.Standing.{are-standing, one-order, some-order}
use Rattle.just_scopes.proofs.laws.lists_modules_in_one_order.Goals as goal

pub returns-clause-one : goal.returns-clause-one
returns-clause-one c = one-order

pub returns-clause-all : goal.returns-clause-all
returns-clause-all c = are-standing

pub returns-clause-some : goal.returns-clause-some
returns-clause-some c = some-order
