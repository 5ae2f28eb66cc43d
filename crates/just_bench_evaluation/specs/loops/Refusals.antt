-- What private functions say beside `Refusals.antt`.
use Rattle.std.specs.Prelude.{◌≡◌, Option, Some, None, Result, Ok, Err}
use Rattle.just_errors.specs.declared.error.Error.{Error}
use Rattle.just_errors.specs.declared.error.Error.TheVariants as error
use Rattle.just_errors.specs.declared.refusal.Refusal.{Refusal}
use Rattle.just_errors.specs.declared.refusal.Refusal.TheVariants as refusal
use Rattle.just_bench_evaluation.specs.Refusals.{no_value}

-- a refusal tells that there is no value; want of memory aside
abbrev pub TellsNone : Refusal → Type 0
TellsNone refusal.Memory = Unit {0}
TellsNone (refusal.Fault fault) = fault.message ≡ no_value

-- A result tells an outcome: the value, or that there is none where there is none; want of memory aside.
abbrev pub TellsValue : {A : Type 0} → Option A → Result A Refusal → Type 0
TellsValue outcome (Ok value) = outcome ≡ Some value
TellsValue outcome (Err refusal.Memory) = Unit {0}
TellsValue outcome (Err (refusal.Fault fault)) = (outcome ≡ None) × (fault.message ≡ no_value)

-- a fault of an expression is told as no value, and all else as want of memory
abbrev pub IsRefusalOf : Error → Refusal → Type 0
IsRefusalOf (error.Compile e) told = TellsNone told
IsRefusalOf _ told = told ≡ refusal.Memory
