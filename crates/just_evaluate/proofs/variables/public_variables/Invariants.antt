use Rattle.std.proofs.Common.{◌≡◌, filter, map}
use Rattle.just_evaluate.specs.Asked.{is_public_variable}
use Rattle.just_evaluate.proofs.variables.public_variables.Given as goal

abbrev pub invariant-loop-assignment : goal.invariant-loop-assignment
invariant-loop-assignment l = map (λ a. a.now) l.found.items ≡ filter is_public_variable (map (λ a. a.now) l.yielded)
