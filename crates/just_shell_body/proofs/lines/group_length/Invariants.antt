use Rattle.std.proofs.Common.{◌≡◌, take, drop}
use Rattle.just_shell_body.specs.Lines.{groups, groups_after}
use Rattle.just_shell_body.proofs.lines.group_length.Given as goal

abbrev pub invariant-loop-i : goal.invariant-loop-i
invariant-loop-i g l = groups (g.S.Syntax.answers l.syntax) l.settings l.lines ≡ groups_after (g.S.Syntax.answers l.syntax) l.settings (take l.i l.lines) (drop l.i l.lines)
