use Rattle.std.proofs.Common.{ap, ◌∙◌}
use Rattle.just_execution.specs.Firsts.{stands_among}
use Rattle.just_tasks.specs.Pairs.{same_pair}
use Rattle.just_execution.proofs.Pairs.{held}
use Rattle.just_execution.proofs.once.Once.contains.Goals as goal

pub returns : goal.returns
returns c = c.contains.ensures ∙ held c.self.inside.pairs.keys c.args.pair.now ∙ ap (λ ps. stands_among same_pair ps c.args.pair.now) c.self.view_is
