use Rattle.just_bench.proofs.Turns.{refused-next}
use Rattle.just_bench.proofs.laws.the_call_of_the_number_is_refused.Goals as goal

pub returns : goal.returns
returns c = refused-next
