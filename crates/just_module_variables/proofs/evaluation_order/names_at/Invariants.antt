use Rattle.std.proofs.Common.{◌≡◌, map, take}
use Rattle.just_names.specs.Index.{name_at}
use Rattle.just_module_variables.proofs.evaluation_order.names_at.Given as goal

abbrev pub invariant-loop-place : goal.invariant-loop-place
invariant-loop-place l = l.names ≡ map (name_at l.keys) (take l.place-index l.places)
