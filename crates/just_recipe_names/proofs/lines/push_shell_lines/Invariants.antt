use Rattle.std.proofs.Common.{◌≡◌, ◌++◌, drop, true}
use Rattle.std.specs.List.{flat_map}
use Rattle.just_parts.specs.Scopes.{line_expressions, read_lines}
use Rattle.just_recipe_names.specs.Steps.{events}
use Rattle.just_recipe_names.specs.loops.Steps.{readings}
use Rattle.just_recipe_names.proofs.lines.push_shell_lines.Given as goal

abbrev pub invariant-loop-line : goal.invariant-loop-line
invariant-loop-line g l =
    let read = read_lines (g.S.Syntax.answers l.syntax) l.settings in
    events l.fn.found.items ++ readings (flat_map line_expressions (read true l.lines))
    ≡ events l.found.items ++ readings (flat_map line_expressions (read l.begins (drop l.line-index l.lines)))
