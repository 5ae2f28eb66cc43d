use Rattle.just_evaluate.proofs.Standing.{own_led, stands_led}
use Rattle.just_evaluate.proofs.laws.leads_inside.Goals as goal

pub returns-clause-inside : goal.returns-clause-inside
returns-clause-inside c = stands_led

pub returns-clause-own : goal.returns-clause-own
returns-clause-own c = own_led
