-- From the words' invocations to the outcome of their run.
use Rattle.std.proofs.Common.{◌≡◌, ◌≤◌, ℕ, true, List, [], length, Option, Ok, Err, IfSome, refl, sym, ap, subst, inl, inr, arith}
use Rattle.std.specs.Prelude.{IsErrAnd, Result}
use Rattle.just_run_layers.proofs.InteractionLemmas.{after-none}
use Rattle.just_run_layers.specs.Interactions.{Log}
use Rattle.just_recipe.specs.declared.dependency.Dependency.{Dependency}
use Rattle.just_parts.specs.declared.layers.config.Config.{Config}
use Rattle.just_errors.specs.declared.error.Error.{Error}
use Rattle.just_errors.specs.declared.error.Error.TheVariants.{Load, Compile, Invocation, Run, Exhausted, Memory}
use Rattle.just_errors.specs.declared.run_error.RunError.TheVariants.{ExcessInvocations}
use Rattle.just_errors.specs.declared.halt.Halt.{Halt}
use Rattle.just_errors.specs.declared.halt.Halt.TheVariants as halt
use Rattle.just_run_layers.specs.declared.host.Entry.{Entry}
use Rattle.just_recipe.specs.declared.recipe.Recipe.{Recipe}
use Rattle.just_run_layers.specs.Evaluation.{Inquiry}
use Rattle.just_errors.specs.Halts.{come_to}
use Rattle.just_run_layers.specs.Host.{Answer}
use Rattle.just_execution.specs.declared.run.Report.{Report}
use Rattle.just_justfile.specs.declared.justfile.Justfile.{Justfile}
use Rattle.just_scopes.specs.Opening.{Setup}
use Rattle.just_invocations.specs.Cause as cause
use Rattle.just_invoke.specs.Results as going
use Rattle.just_invoke.specs.Results.{RunEndsAs}
use Rattle.just_invoke.specs.Outcome.{IsOutcome, IsRunnable, IsRunRefusal, excess, fault, memory, ran, refused, shut, tops}
use Rattle.just_invoke.specs.loops.Outcome.{IsExcess}
use Rattle.just_invocations.specs.Split.{Counts, Invoked, IsSplit, HasWordsFault}
use Rattle.just_invoke.specs.Whole.{IsWholeRun}
use Rattle.just_invocations.proofs.Faults.{split_no_fault}
use Rattle.just_invocations.proofs.Unique.{split_once}
use Rattle.just_invoke.proofs.Wholes.{is-whole}

-- what is expected where these are invoked
abbrev IsSo : Setup → (Inquiry → Option Answer) → (Entry → Option Answer) → Justfile → List (Recipe Dependency) → List Invoked → Log → Log → Result Report Error → Type 0
IsSo setup evaluator host root recipes invoked old new result =
    (ended : Result Report Halt) × (result ≡ come_to ended) × IsWholeRun evaluator host setup root recipes (tops recipes invoked) old new ended

module _ (counts : Counts) (root : Justfile) (recipes : List (Recipe Dependency)) (words : List (List ℕ)) (config : Config) (setup : Setup) where
  -- words that are not read
  unread : (e : Error) → cause.IsOfWords e → IfSome (cause.cause_of e) (HasWordsFault counts root recipes words) → IsRunRefusal counts root recipes words config.one e
  unread (Invocation e) x h = fault (Invocation e) (cause.cause_of_fault e) refl h
  unread Memory x h = memory
  unread (Load e) x h = absurd x
  unread (Compile e) x h = absurd x
  unread (Run e) x h = absurd x
  unread Exhausted x h = absurd x

  -- they are not expected to run
  out : (p : Inquiry → Option Answer) (q : Entry → Option Answer) (invoked : List Invoked) (old : Log) → IsSo setup p q root recipes invoked old old (Err Memory)
  out p q invoked old = (Err halt.Memory, refl, λ sets needs ps order f steady even. inr (inl refl, ([], _, refl, sym (after-none old))))

  -- nor are words that have a fault
  unread-expected : (e : Error) → cause.IsOfWords e → IfSome (cause.cause_of e) (HasWordsFault counts root recipes words) → (p : Inquiry → Option Answer) (q : Entry → Option Answer) (invoked : List Invoked) → IsSplit counts root recipes words invoked →
      (old : Log) → IsSo setup p q root recipes invoked old old (Err e)
  unread-expected (Invocation e) x h p q invoked split old = absurd (split_no_fault counts root recipes words invoked (cause.cause_of_fault e) split h)
  unread-expected Memory x h p q invoked split old = out p q invoked old
  unread-expected (Load e) x h p q invoked split old = absurd x
  unread-expected (Compile e) x h p q invoked split old = absurd x
  unread-expected (Run e) x h p q invoked split old = absurd x
  unread-expected Exhausted x h p q invoked split old = absurd x

  -- what is answered for them
  answered : (r : Result Report Error) (e : Error) → IsErrAnd r (λ y. y ≡ e) → r ≡ Err e
  answered (Ok report) e h = absurd h
  answered (Err y) e h = ap (λ y. Err y) h

  pub unread-outcome : (e : Error) → cause.IsOfWords e → IfSome (cause.cause_of e) (HasWordsFault counts root recipes words) → (r : Result Report Error) → IsErrAnd r (λ y. y ≡ e) → (p : Inquiry → Option Answer) (q : Entry → Option Answer) (old : Log) →
      IsOutcome counts root recipes words config setup p q old old r
  unread-outcome e x h r is p q old = refused e (answered r e is) (unread e x h) refl

  pub unread-so : (e : Error) → cause.IsOfWords e → IfSome (cause.cause_of e) (HasWordsFault counts root recipes words) → (r : Result Report Error) → IsErrAnd r (λ y. y ≡ e) → (p : Inquiry → Option Answer) (q : Entry → Option Answer) (old : Log) →
      (invoked : List Invoked) → IsRunnable counts root recipes words config.one invoked → IsSo setup p q root recipes invoked old old r
  unread-so e x h r is p q old invoked may = subst (λ r. IsSo setup p q root recipes invoked old old r) (sym (answered r e is)) (unread-expected e x h p q invoked may.split old)

  module _ (p : Inquiry → Option Answer) (q : Entry → Option Answer) (invoked : List Invoked) (split : IsSplit counts root recipes words invoked) (few : config.one ≡ true → length invoked ≤ 1) (old new : Log) (result : Result Report Error) where
    pub went : RunEndsAs p q setup root recipes (tops recipes invoked) old new result → IsOutcome counts root recipes words config setup p q old new result
    went (going.out is same) = refused Memory is memory same
    went (going.shut e is opens executed) = shut invoked e (record { split = split; few = few }) is opens executed
    went (going.ran opened mid ended is has run runs) = ran invoked opened mid ended (record { split = split; few = few }) is has run runs.taken

    pub went-expected : RunEndsAs p q setup root recipes (tops recipes invoked) old new result → (others : List Invoked) → IsRunnable counts root recipes words config.one others → IsSo setup p q root recipes others old new result
    went-expected goes others may = subst (λ is. IsSo setup p q root recipes is old new result) (split_once counts root recipes words invoked others split may.split)
        (is-whole p q setup root recipes (tops recipes invoked) old new result goes)

  -- several invocations where one alone is allowed
  module _ (invoked : List Invoked) (split : IsSplit counts root recipes words invoked) (n : ℕ) (count : n ≡ length invoked) (e : Error) (many : IsExcess config.one n e) where
    too-many : IsRunRefusal counts root recipes words config.one e
    too-many = subst (IsRunRefusal counts root recipes words config.one) (sym many.2)
        (subst (λ k. IsRunRefusal counts root recipes words config.one (Run (ExcessInvocations k))) (sym count) (excess invoked split many.0 (omega (arith, many.1))))

    pub many-outcome : (r : Result Report Error) → IsErrAnd r (λ y. y ≡ e) → (p : Inquiry → Option Answer) (q : Entry → Option Answer) (old : Log) → IsOutcome counts root recipes words config setup p q old old r
    many-outcome r is p q old = refused e (answered r e is) too-many refl

    pub many-not : (others : List Invoked) → IsRunnable counts root recipes words config.one others → ⊥
    many-not others may =
        let same : length invoked ≡ length others = ap length (split_once counts root recipes words invoked others split may.split) in
        let few : length others ≤ 1 = may.few many.0 in
        omega (arith, many.1)
