-- Results and how they end: one result has one value or one halt, and halts differ.
use Rattle.std.proofs.Common.{◌≡◌, Result, Ok, Err}
use Rattle.just_errors.specs.declared.halt.Halt.{Halt}
use Rattle.just_errors.specs.declared.halt.Halt.TheVariants.{Memory, Exhausted, Failed}
use Rattle.just_errors.specs.declared.run_error.RunError.{RunError}

pub ok-is : {A : Type 0} (r : Result A Halt) (x y : A) → r ≡ Ok x → r ≡ Ok y → x ≡ y
ok-is r x y h k = cc

pub ok-not : {A : Type 0} (r : Result A Halt) (x : A) (e : Halt) → r ≡ Ok x → r ≡ Err e → ⊥
ok-not r x e h k = cc

pub err-is : {A : Type 0} (r : Result A Halt) (e f : Halt) → r ≡ Err e → r ≡ Err f → e ≡ f
err-is r e f h k = cc

pub memory-not : Memory ≡ Exhausted → ⊥
memory-not h = cc

pub failed-not : (e : RunError) → Failed e ≡ Exhausted → ⊥
failed-not e h = cc
