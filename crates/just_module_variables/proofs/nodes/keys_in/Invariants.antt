use Rattle.std.proofs.Common.{◌≡◌, map}
use Rattle.just_module_variables.proofs.nodes.keys_in.Given as goal

abbrev pub invariant-loop-key : goal.invariant-loop-key
invariant-loop-key g l = l.keys.items ≡ map (λ k. k.now) (map (λ k. k.now) l.yielded)
