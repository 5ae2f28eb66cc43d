use Rattle.std.proofs.Common.{◌≡◌, drop}
use Rattle.just_shell_body.specs.Lines.{last_number}
use Rattle.just_shell_body.proofs.lines.last_number.Given as goal

abbrev pub invariant-loop-line : goal.invariant-loop-line
invariant-loop-line l = last_number l.last (drop l.line-index l.lines) ≡ last_number l.number l.lines
