-- What an evaluation promises that fails at a question: what the one behind it does, once it has failed.
use Rattle.std.proofs.Common.{◌≡◌, refl, sym, ◌∙◌, subst}
use Rattle.std.proofs.lemmas.Option.{none-some}
use Rattle.std.specs.Prelude.{Option, None, Some}
use Rattle.just_errors.specs.declared.fault.Fault.{Fault}
use Rattle.just_run_layers.specs.Host.{Answer, Answers, KeepsPromises}
use Rattle.just_bench_failing.specs.Failing.{promised_until}

module _ {Q : Type 0} (fault : Option Fault) (promised : Q → Option Answer) where
  -- it keeps its promises where the one behind it does, and does not fail again
  pub keeps-until : (later : Option Fault) (next : Q → Option Answer) → (fault ≡ None → later ≡ None) → KeepsPromises promised next → KeepsPromises (promised_until fault promised) (promised_until later next)
  keeps-until later next stays keeps = keep fault refl
    where
      keep : (f : Option Fault) → fault ≡ f → KeepsPromises (promised_until f promised) (promised_until later next)
      keep None is question answer e = subst (λ l. promised_until l next question ≡ Some answer) (sym (stays is)) (keeps question answer e)
      keep (Some f) is question answer e = absurd (none-some answer e)

  -- it answers as promised where it answers as the one behind it, once it has failed
  pub answers-until : (question : Q) (given told : Option Answer) → (fault ≡ None → told ≡ given) → Answers (promised question) given → Answers (promised_until fault promised question) told
  answers-until question given told same answers = answer fault refl
    where
      answer : (f : Option Fault) → fault ≡ f → Answers (promised_until f promised question) told
      answer None is a b e t = answers a b e (sym (same is) ∙ t)
      answer (Some f) is a b e t = absurd (none-some a e)
