use Rattle.just_analyzer.specs.Words.{is_ordered}
use Rattle.just_examples.proofs.Standing.{apart, in_order}
use Rattle.just_examples.proofs.answers.add_call.Goals as goal

pub add_evaluated-requires-clause-in_order : goal.add_evaluated-requires-clause-in_order
add_evaluated-requires-clause-in_order c = in_order c.requires.can_run

pub add_evaluated-requires-clause-apart : goal.add_evaluated-requires-clause-apart
add_evaluated-requires-clause-apart c = apart c.requires.can_run

pub add_walk-requires : goal.add_walk-requires
add_walk-requires c = is_ordered c.requires.can_run.rooted.closed
