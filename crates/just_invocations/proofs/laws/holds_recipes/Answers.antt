use Rattle.just_invocations.proofs.Holding.{split_held}
use Rattle.just_invocations.proofs.laws.holds_recipes.Goals as goal

pub returns : goal.returns
returns c = split_held
