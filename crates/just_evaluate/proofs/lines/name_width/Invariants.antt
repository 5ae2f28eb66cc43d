use Rattle.std.proofs.Common.{◌≡◌, map, take}
use Rattle.just_evaluate.specs.loops.Bindings.{bound_behind}
use Rattle.just_evaluate.specs.Lines.{name_width}
use Rattle.just_evaluate.proofs.lines.name_width.Given as goal

abbrev pub invariant-loop-variable : goal.invariant-loop-variable
invariant-loop-variable l = l.width ≡ name_width (map bound_behind (take l.variable-index l.variables))
