use Rattle.std.proofs.Common.{◌≡◌, map}
use Rattle.just_module_variables.proofs.resolution.names_of.Given as goal

abbrev pub invariant-loop-assignment : goal.invariant-loop-assignment
invariant-loop-assignment l = l.names.items ≡ map (λ a. a.name) (map (λ a. a.now) l.yielded)
