use Rattle.just_justfile.specs.Closed.{have_names, inner_closed, is_closed, is_ordered}
use Rattle.just_justfile.proofs.laws.closes_its_modules.Goals as goal

pub returns-clause-itself : goal.returns-clause-itself
returns-clause-itself c recipes root = is_closed

pub returns-clause-names : goal.returns-clause-names
returns-clause-names c recipes root = have_names

pub returns-clause-ordered : goal.returns-clause-ordered
returns-clause-ordered c recipes root = is_ordered

pub returns-clause-modules : goal.returns-clause-modules
returns-clause-modules c recipes root inner closed = inner_closed closed inner
