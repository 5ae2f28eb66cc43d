use Rattle.just_scopes.proofs.Keeping.{opens-each-once}
use Rattle.just_scopes.proofs.laws.asks_for_each_module_once.Goals as goal

pub returns : goal.returns
returns c = opens-each-once
