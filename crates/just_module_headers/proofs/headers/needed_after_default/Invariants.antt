use Rattle.just_module_headers.proofs.Following.{Passed}
use Rattle.just_module_headers.proofs.headers.needed_after_default.Given as goal

abbrev pub invariant-loop-place : goal.invariant-loop-place
invariant-loop-place l = Passed l.parameters l.place l.passed
