use Rattle.std.proofs.Common.{◌≡◌, ◌++◌, drop, true}
use Rattle.just_recipe_names.specs.Numbered.{shell_lines_by}
use Rattle.just_recipe_names.specs.loops.Numbered.{looked_up}
use Rattle.just_recipe_names.proofs.body.numbered_shell_lines.Given as goal

abbrev pub invariant-loop-line : goal.invariant-loop-line
invariant-loop-line g l =
    let answers = g.S.Syntax.answers l.numbers.syntax.now in
    let again = shell_lines_by (looked_up answers l.numbers) answers l.settings in
    again true l.lines ≡ l.made.items ++ again l.begins (drop l.line-index l.lines)
