use Rattle.std.proofs.Common.{◌≡◌, drop}
use Rattle.just_tail.specs.Words.{as_texts}
use Rattle.just_tail.specs.Checks.{any_missing}
use Rattle.just_tail.proofs.checks.any_missing.Given as goal

abbrev pub invariant-loop-place : goal.invariant-loop-place
invariant-loop-place l =
    any_missing l.parameters (as_texts l.groups) ≡ any_missing (drop l.place l.parameters) (drop l.place (as_texts l.groups))
