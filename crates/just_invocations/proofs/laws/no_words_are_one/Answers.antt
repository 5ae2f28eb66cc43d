use Rattle.std.proofs.Common.{ap, length}
use Rattle.just_invocations.proofs.laws.no_words_are_one.Goals as goal

pub returns : goal.returns
returns c counts root recipes is split = ap length split.1
