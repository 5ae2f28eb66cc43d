use Rattle.std.proofs.Common.{◌≡◌, filter_map, map, take}
use Rattle.just_evaluate.specs.loops.Bindings.{bound_behind}
use Rattle.just_evaluate.specs.Lines.{bound_in}
use Rattle.just_evaluate.proofs.bindings.bound_among.Given as goal

abbrev pub invariant-loop-place : goal.invariant-loop-place
invariant-loop-place l = map bound_behind l.found.items ≡ filter_map (bound_in l.scope) (map (λ a. a.now) (take l.place l.variables.items))
