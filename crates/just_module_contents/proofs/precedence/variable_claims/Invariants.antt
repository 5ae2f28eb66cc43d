use Rattle.std.proofs.Common.{◌≡◌, map, take}
use Rattle.just_module_contents.specs.Definitions.{variables_in}
use Rattle.just_module_contents.specs.Kept.{claim_of_variable}
use Rattle.just_module_contents.proofs.precedence.variable_claims.Given as goal

abbrev pub invariant-loop-place : goal.invariant-loop-place
invariant-loop-place l = l.claims.items ≡ map claim_of_variable (take l.place (variables_in l.definitions))
