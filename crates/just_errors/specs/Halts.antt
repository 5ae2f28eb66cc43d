-- The error that tells why a run ended.
use Rattle.std.specs.Prelude.{Result, Ok, Err}
use Rattle.just_errors.specs.declared.error.Error.{Error}
use Rattle.just_errors.specs.declared.error.Error.TheVariants as error
use Rattle.just_errors.specs.declared.halt.Halt.{Halt}
use Rattle.just_errors.specs.declared.halt.Halt.TheVariants as halt
use Rattle.just_errors.specs.declared.run_error.RunError.TheVariants.{Evaluate}
use Rattle.just_names.specs.Texts.{Text}

abbrev pub error_of : Halt → Error
error_of halt.Memory = error.Memory
error_of halt.Exhausted = error.Exhausted
error_of (halt.Failed e) = error.Run e

-- what is answered for a run that came to this
abbrev pub come_to : {A : Type 0} → Result A Halt → Result A Error
come_to (Ok x) = Ok x
come_to (Err h) = Err (error_of h)

-- a run without its value
abbrev pub discard_value : {A : Type 0} → Result A Halt → Result (Unit {0}) Halt
discard_value (Ok x) = Ok tt
discard_value (Err h) = Err h

-- the evaluator has no answer, with what it says of that
abbrev pub unevaluated : Text → Halt
unevaluated message = halt.Failed (Evaluate (record { message = message }))
