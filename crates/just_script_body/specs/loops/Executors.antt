-- What private functions say beside `Executors.antt`.
use Rattle.std.specs.Prelude.{◌≡◌, Result, Ok, Err}
use Rattle.just_errors.specs.declared.halt.Halt.{Halt}
use Rattle.just_errors.specs.declared.halt.Halt.TheVariants as halt
use Rattle.just_errors.specs.declared.run_error.RunError.{RunError}

-- for the private functions: this result, or want of memory
abbrev pub IsOrMemory : {A : Type 0} → Result A RunError → Result A Halt → Type 0
IsOrMemory expected (Ok x) = expected ≡ Ok x
IsOrMemory expected (Err (halt.Failed e)) = expected ≡ Err e
IsOrMemory expected (Err halt.Memory) = Unit {0}
IsOrMemory expected (Err halt.Exhausted) = ⊥
