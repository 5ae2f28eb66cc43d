use Rattle.std.proofs.Common.{◌≡◌, ◌++◌, drop}
use Rattle.just_justfile.specs.declared.justfile.Justfile.{out-Justfile}
use Rattle.just_scopes.specs.loops.Preorder.{inner_modules, waiting}
use Rattle.just_scopes.proofs.modules.add_modules.Given as goal

abbrev pub invariant-loop-inner : goal.invariant-loop-inner
invariant-loop-inner l = waiting l.left.items ≡ inner_modules l.place l.parent.is_lazy (drop l.inner (out-Justfile l.parent.justfile.now).modules) ++ waiting l.initial.left.items
