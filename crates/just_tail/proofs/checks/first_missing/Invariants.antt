use Rattle.std.proofs.Common.{◌≡◌, drop}
use Rattle.just_tail.specs.Words.{as_texts}
use Rattle.just_tail.specs.Checks.{first_missing}
use Rattle.just_tail.proofs.checks.first_missing.Given as goal

abbrev pub invariant-loop-place : goal.invariant-loop-place
invariant-loop-place l =
    first_missing l.parameters (as_texts l.groups) ≡ first_missing (drop l.place l.parameters) (drop l.place (as_texts l.groups))
