use Rattle.std.proofs.Common.{◌≡◌, true, false}
use Rattle.just_parts.specs.Groups.{BeginsGroup}
use Rattle.just_module_bodies.proofs.Grouping.{FirstsKept}
use Rattle.just_module_bodies.proofs.shells.check_lines.Given as goal

abbrev pub invariant-loop-place : goal.invariant-loop-place
invariant-loop-place g l =
    (l.begins ≡ true → BeginsGroup (g.S.Syntax.answers l.syntax) l.settings l.lines l.place)
    × (l.begins ≡ false → BeginsGroup (g.S.Syntax.answers l.syntax) l.settings l.lines l.place → ⊥)
    × FirstsKept (g.S.Syntax.answers l.syntax) l.settings l.lines l.place
