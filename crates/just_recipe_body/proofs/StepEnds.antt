-- Interactions that end with an error that a caller hands on, and want of memory.
use Rattle.std.proofs.Common.{◌≡◌, Option, Result, Ok, Err, sym, subst}
use Rattle.std.specs.Prelude.{IsErrAnd}
use Rattle.just_errors.specs.declared.halt.Halt.{Halt}
use Rattle.just_errors.specs.declared.halt.Halt.TheVariants.{Failed, Memory}
use Rattle.just_errors.specs.declared.run_error.RunError.{RunError}
use Rattle.just_run_layers.specs.Host.{Answer}
use Rattle.just_run_layers.specs.Interactions.{Log, Question, Interaction, Return, HasTrace, and_then}
use Rattle.just_run_layers.proofs.InteractionLemmas.{exited, keeps-self, took-fail, took-give, took-out, took-stop, took-then}
use Rattle.just_recipe_body.specs.Body.{concluded}

module _ (p : Question → Option Answer) where
  pub took-exit : {A B : Type 0} (s : Interaction A) (next : A → Interaction B) (old new : Log) (e : Halt) (r : Result B Halt) → IsErrAnd r (λ y. y ≡ e) → HasTrace p s old new (Err e) → HasTrace p (and_then s next) old new r
  took-exit s next old new e r h t = subst (λ x. HasTrace p (and_then s next) old new x) (sym (exited r e h)) (took-stop p s next old new e t)

  pub took-gone : {A : Type 0} (s : Interaction A) (old new : Log) (r : Result A Halt) → IsErrAnd r (λ y. y ≡ Memory) → new ≡ old → HasTrace p s old new r
  took-gone s old new r h n = subst (λ x. HasTrace p s old new x) (sym (exited r Memory h)) (took-out p s old new n)

  -- steps, and a value by theirs
  pub took-map : {A B : Type 0} (s : Interaction A) (f : A → B) (old new : Log) (x : A) → HasTrace p s old new (Ok x) → HasTrace p (and_then s (λ y. Return (f y))) old new (Ok (f x))
  took-map s f old new x t = took-then p p (keeps-self p) s (λ y. Return (f y)) old new new x (Ok (f x)) t (took-give p new (f x))

  -- what a total function gives
  pub took-given : {A : Type 0} (old : Log) (x : A) (o : Result A RunError) → o ≡ Ok x → HasTrace p (concluded o) old old (Ok x)
  took-given old x o e = subst (λ o. HasTrace p (concluded o) old old (Ok x)) (sym e) (took-give p old x)

  pub took-refused : {A : Type 0} (old : Log) (x : RunError) (o : Result A RunError) → o ≡ Err x → HasTrace {A = A} p (concluded o) old old (Err (Failed x))
  took-refused {A} old x o e = subst (λ o. HasTrace {A = A} p (concluded o) old old (Err (Failed x))) (sym e) (took-fail p old (Failed x))
