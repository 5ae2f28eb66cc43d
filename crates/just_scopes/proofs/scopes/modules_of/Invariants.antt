use Rattle.std.proofs.Common.{map}
use Rattle.just_scopes.specs.Opening.{handed_of, opened_of}
use Rattle.just_scopes.specs.loops.Scoped.{AreModulesOf}
use Rattle.just_scopes.proofs.scopes.modules_of.Given as goal

abbrev pub invariant-loop-module : goal.invariant-loop-module
invariant-loop-module l = AreModulesOf (handed_of l.config l.overrides) (map opened_of l.yielded) l.modules
