use Rattle.std.proofs.Common.{◌≡◌, map}
use Rattle.just_module_variables.specs.Numbered.{function_numbered}
use Rattle.just_module_variables.specs.loops.Numbering.{number_here}
use Rattle.just_module_variables.proofs.resolution.Numbering.numbered_functions.Given as goal

abbrev pub invariant-loop-function : goal.invariant-loop-function
invariant-loop-function g l = l.made.items ≡ map (function_numbered (number_here (g.S.Syntax.answers l.self.known.syntax.now) l.self)) (map (λ f. f.now) l.yielded)
