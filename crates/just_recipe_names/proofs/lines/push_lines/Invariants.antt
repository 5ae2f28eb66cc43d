use Rattle.std.proofs.Common.{◌≡◌, ◌++◌, drop}
use Rattle.std.specs.List.{flat_map}
use Rattle.just_parts.specs.Scopes.{line_expressions}
use Rattle.just_recipe_names.specs.Steps.{events}
use Rattle.just_recipe_names.specs.loops.Steps.{readings}
use Rattle.just_recipe_names.proofs.lines.push_lines.Given as goal

abbrev pub invariant-loop-line : goal.invariant-loop-line
invariant-loop-line l =
    events l.fn.found.items ++ readings (flat_map line_expressions l.lines)
    ≡ events l.found.items ++ readings (flat_map line_expressions (drop l.line-index l.lines))
