use Rattle.std.proofs.Common.{◌≡◌}
use Rattle.just_module_assembly.proofs.inner.values.Given as goal

abbrev pub invariant-loop-module : goal.invariant-loop-module
invariant-loop-module l = l.modules.items ≡ l.yielded
