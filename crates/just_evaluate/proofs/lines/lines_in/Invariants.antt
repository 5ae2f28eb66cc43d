use Rattle.std.proofs.Common.{◌≡◌, flat_map, map, string_bytes, take}
use Rattle.just_evaluate.specs.loops.Bindings.{bound_behind}
use Rattle.just_evaluate.specs.Lines.{line_in}
use Rattle.just_evaluate.proofs.lines.lines_in.Given as goal

abbrev pub invariant-loop-variable : goal.invariant-loop-variable
invariant-loop-variable g l =
    string_bytes l.text ≡ flat_map (line_in g.E.Evaluation.displayed l.format l.all l.width) (map bound_behind (take l.variable-index l.variables))
