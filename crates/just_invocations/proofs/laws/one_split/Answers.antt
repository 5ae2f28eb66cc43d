use Rattle.just_invocations.proofs.Unique.{split_once}
use Rattle.just_invocations.proofs.laws.one_split.Goals as goal

pub returns : goal.returns
returns c = split_once
