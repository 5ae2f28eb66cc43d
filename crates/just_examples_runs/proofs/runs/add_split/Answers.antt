use Rattle.just_justfile.specs.Closed.{is_ordered}
use Rattle.just_examples_runs.proofs.runs.add_split.Goals as goal

pub parse_invocations-requires : goal.parse_invocations-requires
parse_invocations-requires c = is_ordered c.requires.closed
