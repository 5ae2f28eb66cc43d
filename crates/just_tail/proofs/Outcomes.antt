-- What follows from what a clause says of a result.
use Rattle.std.proofs.Common.{Result, Ok, Err, IfOk, IfErr, IfSome}
use Rattle.std.proofs.lemmas.Option.{IfSome_then}
use Rattle.just_tail.specs.declared.error.TailError.{TailError}
use Rattle.just_tail.specs.Cause.{ArgumentFault, tail_cause_of}

-- what follows from what a clause says of the value in an `Ok`
pub IfOk_then : {X Y : Type 0} (r : Result X Y) {P Q : X → Type 0} → IfOk r P → ((x : X) → P x → Q x) → IfOk r Q
IfOk_then (Ok x) p f = f x p
IfOk_then (Err e) p f = p

-- the same for the error, where it says a cause
pub IfCause_then : {X : Type 0} (r : Result X TailError) {P Q : ArgumentFault → Type 0} → IfErr r (λ e. IfSome (tail_cause_of e) P) → ((x : ArgumentFault) → P x → Q x) →
    IfErr r (λ e. IfSome (tail_cause_of e) Q)
IfCause_then (Ok x) p f = p
IfCause_then (Err e) p f = IfSome_then (tail_cause_of e) p f
