-- What is told in a run where there is no value.
use Rattle.std.proofs.Common.{◌≡◌, refl, sym, ◌∙◌, ap, subst, Option, None, Some, Result, Ok, Err}
use Rattle.just_errors.specs.declared.error.Error.{Error}
use Rattle.just_errors.specs.declared.error.Error.TheVariants as error
use Rattle.just_errors.specs.declared.refusal.Refusal.{Refusal}
use Rattle.just_errors.specs.declared.refusal.Refusal.TheVariants as refusal
use Rattle.just_parts.specs.Evaluator.{FaultsAt}
use Rattle.just_run_layers.specs.Host.{Answer, Answers, Refused, answered}
use Rattle.just_bench_evaluation.specs.Answered.{or_refused}
use Rattle.just_bench_evaluation.specs.loops.Refusals.{TellsValue, IsRefusalOf, TellsNone}

-- nothing is told where there is no value
pub gives_none : {A : Type 0} (o : Option A) (told : Refusal) → o ≡ None → TellsNone told → TellsValue o (Err told)
gives_none o refusal.Memory none is = tt
gives_none o (refusal.Fault fault) none is = (none, is)

-- want of memory
pub gives_memory : {A : Type 0} (o : Option A) (told : Refusal) → told ≡ refusal.Memory → TellsValue o (Err told)
gives_memory o told is = subst (λ t. TellsValue o (Err t)) (sym is) tt

pub is_memory : (e : Error) → IsRefusalOf e refusal.Memory
is_memory (error.Compile e) = tt
is_memory error.Memory = refl
is_memory error.Exhausted = refl
is_memory (error.Load e) = refl
is_memory (error.Invocation e) = refl
is_memory (error.Run e) = refl

-- an error of an expression
pub gives_error : {A : Type 0} (o : Option A) (e : Error) (told : Refusal) → FaultsAt o e → IsRefusalOf e told → TellsValue o (Err told)
gives_error o (error.Compile e) told fault is = gives_none o told fault.0 is
gives_error o error.Memory told fault is = gives_memory o told is
gives_error o error.Exhausted told fault is = absurd fault
gives_error o (error.Load e) told fault is = absurd fault
gives_error o (error.Invocation e) told fault is = absurd fault
gives_error o (error.Run e) told fault is = absurd fault

-- what one outcome gives another does that has none where it has none
module _ {A B : Type 0} {o : Option A} {p : Option B} (none : o ≡ None → p ≡ None) where
  pub gives_on : (told : Refusal) → TellsValue o (Err told) → TellsValue p (Err told)
  gives_on refusal.Memory is = tt
  gives_on (refusal.Fault fault) is = (none is.0, is.1)

  pub gives_refused : (told : Refusal) → TellsValue o (Err told) → (r : Result B Refusal) → r ≡ Err told → TellsValue p r
  gives_refused told is r same = subst (TellsValue p) (sym same) (gives_on told is)

-- what gives an outcome is the answer that is promised
pub gives_answer : {A : Type 0} (answer : A → Answer) (o : Option A) (r : Result A Refusal) → TellsValue o r → Answers (Some (or_refused answer o)) (answered answer r)
gives_answer answer o (Ok x) is = λ a b first second.
    let one : a ≡ or_refused answer o = cc in
    let two : b ≡ answer x = cc in
    one ∙ ap (or_refused answer) is ∙ sym two
gives_answer answer o (Err refusal.Memory) is = λ a b first second. absurd (cc)
gives_answer answer o (Err (refusal.Fault fault)) is = λ a b first second.
    let one : a ≡ or_refused answer o = cc in
    let two : b ≡ Refused fault.message = cc in
    one ∙ ap (or_refused answer) is.0 ∙ ap (λ message. Refused message) (sym is.1) ∙ sym two
