use Rattle.std.proofs.Common.{◌≡◌, map, take}
use Rattle.just_scopes.specs.loops.Wanting.{free_values}
use Rattle.just_scopes.proofs.needs.values_read.Given as goal

abbrev pub invariant-loop-place : goal.invariant-loop-place
invariant-loop-place l = map (λ e. e.now) l.found.items ≡ free_values l.«module» (map (λ a. a.now) (take l.place l.starts.items))
