use Rattle.just_bench.proofs.Turns.{scripted-in-turn}
use Rattle.just_bench.proofs.laws.scripts_are_answered_in_order.Goals as goal

pub returns : goal.returns
returns c = scripted-in-turn
