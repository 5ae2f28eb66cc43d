-- A question of a run that fails.
use Rattle.std.specs.Prelude.{◌≡◌, ◌<◌, ◌-◌, ℕ, Option, None, Some, IsSome}
use Rattle.just_errors.specs.declared.fault.Fault.{Fault}
use Rattle.just_run_layers.specs.Host.{Answer}
use Rattle.just_bench_failing.specs.declared.failure.Failure.{Failure}

-- The question of a number is to fail: so many are answered before it. At 0 none is.
pub record FailsAt (question : ℕ) (failure : Failure) : Type 0 where
  pub never : question ≡ 0 → failure.fault ≡ None
  pub once : 0 < question → IsSome failure.fault
  pub after : 0 < question → failure.left ≡ question - 1

-- while a question is still to fail nothing is promised
abbrev pub promised_until : {Q : Type 0} → Option Fault → (Q → Option Answer) → Q → Option Answer
promised_until None promised question = promised question
promised_until (Some fault) promised question = None
