use Rattle.std.proofs.Common.{◌≡◌, Some, map, take}
use Rattle.std.specs.List.{slice_get}
use Rattle.just_module_variables.proofs.resolution.names_at.Given as goal

abbrev pub invariant-loop-place : goal.invariant-loop-place
invariant-loop-place l = map Some l.found.items ≡ map (slice_get l.names) (take l.place-index l.places)
