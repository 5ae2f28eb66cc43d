use Rattle.std.proofs.Common.{◌≡◌, map, filter}
use Rattle.std.specs.HashSet.{contains}
use Rattle.just_justfile.specs.declared.justfile.Justfile.{out-Justfile}
use Rattle.just_parts.specs.Needs.{same_number}
use Rattle.just_scopes.specs.Need.{is_start}
use Rattle.just_scopes.proofs.needs.starts_of.Given as goal

abbrev pub invariant-loop-assignment : goal.invariant-loop-assignment
invariant-loop-assignment l = map (λ a. a.now) l.found.items ≡ filter (is_start (contains same_number l.used) (out-Justfile l.«module»).settings) (map (λ a. a.now) l.yielded)
