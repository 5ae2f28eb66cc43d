use Rattle.std.proofs.Common.{◌≡◌, IfSome, drop}
use Rattle.std.specs.Option.{option_copied}
use Rattle.just_justfile.specs.Walks.{AreModulesOrdered}
use Rattle.just_overrides.proofs.Stepping.{goes_from}
use Rattle.just_overrides.specs.Reached.{reached}
use Rattle.just_overrides.proofs.walk.reached.Given as goal

abbrev pub invariant-loop-name : goal.invariant-loop-name
invariant-loop-name l = record {
  goes_on : reached l.root l.names ≡ goes_from l.root (option_copied l.found) (drop l.name-index l.names);
  ordered : IfSome l.found (λ j. AreModulesOrdered j.now);
}
