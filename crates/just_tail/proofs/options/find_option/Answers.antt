use Rattle.std.proofs.Common.{sym}
use Rattle.just_tail.proofs.options.find_option.Goals as goal

pub returns-clause-place : goal.returns-clause-place
returns-clause-place c = (c.in-Some.parameter.now, sym c.in-Some.ensures.found)
