use Rattle.std.proofs.Common.{ap, ◌||◌, ◌∙◌}
use Rattle.just_execution.specs.Firsts.{stands_among}
use Rattle.just_tasks.specs.Pairs.{same_pair}
use Rattle.just_execution.proofs.Pairs.{inserted}
use Rattle.just_execution.proofs.once.Once.insert.Goals as goal

pub returns-clause-ok : goal.returns-clause-ok
returns-clause-ok c = λ i p. (inserted c.self.inside.pairs.keys c.insert.new.self.keys c.args.pair (λ q. c.in_ok-insert.ensures.updates.0 q) p
    ∙ ap (λ ps. stands_among same_pair ps p || same_pair c.args.pair p) c.self.view_is) i
