use Rattle.std.proofs.Common.{◌≡◌, ◌++◌, drop}
use Rattle.std.specs.List.{flat_map}
use Rattle.just_parts.specs.Scopes.{fragment_expressions, line_expressions}
use Rattle.just_recipe_names.specs.Steps.{events}
use Rattle.just_recipe_names.specs.loops.Steps.{readings}
use Rattle.just_recipe_names.proofs.lines.push_line.Given as goal

abbrev pub invariant-loop-fragment : goal.invariant-loop-fragment
invariant-loop-fragment l =
    events l.fn.found.items ++ readings (line_expressions l.line)
    ≡ events l.found.items ++ readings (flat_map fragment_expressions (drop l.fragment-index l.fragment-items))
