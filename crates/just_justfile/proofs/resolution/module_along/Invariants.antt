use Rattle.std.proofs.Common.{◌≡◌, IfSome, drop}
use Rattle.std.specs.Option.{option_copied}
use Rattle.just_justfile.specs.Walks.{AreModulesOrdered, inner_along}
use Rattle.just_justfile.proofs.Walking.{along_from}
use Rattle.just_justfile.proofs.resolution.module_along.Given as goal

abbrev pub invariant-loop-name : goal.invariant-loop-name
invariant-loop-name l = record {
  goes_on : inner_along l.root l.names ≡ along_from (option_copied l.found) (drop l.name-index l.names);
  ordered : IfSome l.found (λ j. AreModulesOrdered j.now);
}
