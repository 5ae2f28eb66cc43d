use Rattle.std.proofs.Common.{length}
use Rattle.just_shell_body.proofs.TextLemmas.{plain-boundary}
use Rattle.just_shell_body.proofs.lines.command_said.Goals as goal

pub range_from-command-requires : goal.range_from-command-requires
range_from-command-requires c = λ _. plain-boundary (length c.args.sigils.now) c.args.text.now c.utf8.text c.requires
