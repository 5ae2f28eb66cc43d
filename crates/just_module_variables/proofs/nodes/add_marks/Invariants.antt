use Rattle.std.proofs.Common.{◌≡◌, ◌++◌, replicate}
use Rattle.just_module_variables.proofs.nodes.add_marks.Given as goal

abbrev pub invariant-loop : goal.invariant-loop
invariant-loop l = l.marks.items ≡ l.initial.marks.items ++ replicate l.counter l.mark
