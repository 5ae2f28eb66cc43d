-- What private functions say beside `Failing.antt`.
use Rattle.std.specs.Prelude.{◌≡◌, ◌⊎◌, ◌<◌, ◌-◌, None, Some, Result, Ok, Err}
use Rattle.just_errors.specs.declared.fault.Fault.{Fault}
use Rattle.just_errors.specs.declared.refusal.Refusal.{Refusal}
use Rattle.just_errors.specs.declared.refusal.Refusal.TheVariants as refusal
use Rattle.just_bench_failing.specs.declared.failure.Failure.{Failure}

-- A question is counted, by what it is answered: before the one that fails, and at it, where it is answered by the fault, or by want of memory and the next one fails; once it has failed none does.
pub record IsCounted {T : Type 0} (old new : Failure) (result : Result T Refusal) : Type 0 where
  pub spent : old.fault ≡ None → new.fault ≡ None
  pub before : (fault : Fault) → old.fault ≡ Some fault → 0 < old.left → new ≡ record { left = old.left - 1; fault = Some fault }
  pub fails : (fault : Fault) → old.fault ≡ Some fault → old.left ≡ 0 →
      ((result ≡ Err refusal.Memory) × (new ≡ old)) ⊎ ((result ≡ Err (refusal.Fault fault)) × (new.fault ≡ None))

-- what was answered, or a fault, is answered by a fault; want of memory is not
abbrev pub IsFaulted : {T : Type 0} → Result T Refusal → Result T Refusal → Type 0
IsFaulted (Err refusal.Memory) result = ⊥
IsFaulted answer (Ok x) = ⊥
IsFaulted answer (Err refusal.Memory) = ⊥
IsFaulted answer (Err (refusal.Fault fault)) = Unit {0}
