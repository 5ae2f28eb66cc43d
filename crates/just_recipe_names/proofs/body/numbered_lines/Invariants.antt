use Rattle.std.proofs.Common.{◌≡◌, ◌++◌, drop, map}
use Rattle.just_recipe_names.specs.Numbered.{line_by}
use Rattle.just_recipe_names.specs.loops.Numbered.{looked_up}
use Rattle.just_recipe_names.proofs.body.numbered_lines.Given as goal

abbrev pub invariant-loop-line : goal.invariant-loop-line
invariant-loop-line g l =
    let by = looked_up (g.S.Syntax.answers l.numbers.syntax.now) l.numbers in
    map (line_by by) l.lines ≡ l.made.items ++ map (line_by by) (drop l.line-index l.lines)
