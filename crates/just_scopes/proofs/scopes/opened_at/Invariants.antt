use Rattle.std.proofs.Common.{◌≡◌, map}
use Rattle.std.specs.Option.{option_map}
use Rattle.just_scopes.specs.Opening.{opened_at, opened_of}
use Rattle.just_scopes.proofs.scopes.opened_at.Given as goal

abbrev pub invariant-loop-module : goal.invariant-loop-module
invariant-loop-module l = option_map opened_of l.found ≡ opened_at l.path (map opened_of l.yielded)
