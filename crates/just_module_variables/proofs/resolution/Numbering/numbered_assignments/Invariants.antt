use Rattle.std.proofs.Common.{◌≡◌, map}
use Rattle.just_module_variables.specs.Numbered.{assignment_by}
use Rattle.just_module_variables.specs.loops.Numbering.{number_here}
use Rattle.just_module_variables.proofs.resolution.Numbering.numbered_assignments.Given as goal

abbrev pub invariant-loop-assignment : goal.invariant-loop-assignment
invariant-loop-assignment g l = l.made.items ≡ map (assignment_by (number_here (g.S.Syntax.answers l.self.known.syntax.now) l.self)) (map (λ a. a.now) l.yielded)
