use Rattle.just_bench.proofs.Scripted.{promised-answer}
use Rattle.just_bench.proofs.laws.scripts_promise_their_answers.Goals as goal

pub returns : goal.returns
returns c = promised-answer
