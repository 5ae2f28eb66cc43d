-- From what was left of a run to what is left of it.
use Rattle.std.proofs.Common.{◌≡◌, ◌≢◌, ℕ, ◌+◌, ◌<◌, ◌^◌, true, false, List, [], ◌∷◌, ◌++◌, get_or, Option, refl, sym, ◌∙◌, ap, subst, arith, eq-eqb, inl, ◌==◌, Ok, Err}
use Rattle.std.specs.Prelude.{Result, IsErrAnd}
use Rattle.std.proofs.lemmas.Bool.{cond-true, cond-false, ne_eqb}
use Rattle.just_errors.specs.declared.halt.Halt.{Halt}
use Rattle.just_errors.specs.declared.halt.Halt.TheVariants.{Memory, Exhausted}
use Rattle.just_run_layers.specs.Host.{Answer, KeepsPromises}
use Rattle.just_run_layers.specs.declared.held.Held.{Held}
use Rattle.just_run_layers.specs.Interactions.{Log, Question, Interaction, Return, Fail, and_then, HasTrace}
use Rattle.just_run_layers.proofs.InteractionLemmas.{keeps-self, took-out, took-stop, took-then, took-kept}
use Rattle.just_execution.specs.declared.frame.Frame.{Frame}
use Rattle.just_execution.specs.declared.frame.Frame.TheVariants.{Call, Block}
use Rattle.just_execution.specs.loops.Frames.{walk_at, with_calls, continuation_from, calls_of, Simulates, replace_value}
use Rattle.just_execution.specs.loops.Lower.{IsLower}
use Rattle.just_tasks.specs.declared.task.Task.{Task}
use Rattle.just_tasks.specs.Pairs.{AllBelow}
use Rattle.just_execution.specs.declared.run.Report.{Report}
use Rattle.just_execution.specs.Reports.{calls_in}
use Rattle.just_execution.specs.Walking.{TaskInteractions, Prepared, State, add_at, count_steps, fresh_steps, opened, ran, walk_steps}
use Rattle.just_execution.proofs.FrameLemmas.{first-frames, call-over, call-known, call-new, block-left}

-- an end on the way
pub goes-err : {A U : Type 0} (p : Question → Option Answer) (s t : Interaction A) (old mid : Log) (e : Halt) (r : Result U Halt) → IsErrAnd r (λ y. y ≡ e) → HasTrace p s old mid (Err e) → Simulates p s old t mid r
goes-err p s t old mid e (Ok u) h k = absurd h
goes-err p s t old mid e (Err y) h k = subst (λ x. HasTrace p s old mid (Err x)) (sym h) k

-- a counter that fits, and one that does not
pub count-fits : (s : State) (calls : List ℕ) → get_or s.calls s.number 0 + 1 < 2 ^ 64 → calls ≡ add_at s.calls s.number 1 → count_steps s ≡ Return (with_calls s calls)
count-fits s calls l e =
    let n : ℕ = get_or s.calls s.number 0 + 1 in
    cond-false (n == 2 ^ 64) _ _ (ne_eqb n (2 ^ 64) (λ h. omega arith)) ∙ ap (λ ns. Return (with_calls s ns)) (sym e)

pub count-over : (s : State) → get_or s.calls s.number 0 + 1 ≡ 2 ^ 64 → count_steps s ≡ Fail Exhausted
count-over s e = cond-true (get_or s.calls s.number 0 + 1 == 2 ^ 64) _ _ (eq-eqb (get_or s.calls s.number 0 + 1) (2 ^ 64) e)

module _ (of_task : TaskInteractions) (lower : IsLower of_task) (p : Question → Option Answer) (xs : List Frame) (t : Task) (s : State) where
  -- a call that no counter is left for
  pub over-took : (old : Log) (e : Halt) → get_or s.calls s.number 0 + 1 ≡ 2 ^ 64 → e ≡ Exhausted → HasTrace p (continuation_from of_task (xs ++ Call t ∷ []) s) old old (Err e)
  over-took old e full is = subst (λ u. HasTrace p u old old (Err e)) (sym (call-over of_task xs t s (count-over s full))) (refl, inl (ap (λ x. Err x) is))

  module _ (calls : List ℕ) (fits : get_or s.calls s.number 0 + 1 < 2 ^ 64) (counted : calls ≡ add_at s.calls s.number 1) where
    -- of a pair that ran
    pub known-took : s.table t.pair ≡ true → (old new : Log) (r : Result State Halt) → HasTrace p (continuation_from of_task xs (with_calls s calls)) old new r → HasTrace p (continuation_from of_task (xs ++ Call t ∷ []) s) old new r
    known-took h old new r k = subst (λ u. HasTrace p u old new r) (sym (call-known of_task xs t s (with_calls s calls) (count-fits s calls fits counted) h)) k

    -- whose questions fail
    pub unasked-took : s.table t.pair ≡ false → (old mid : Log) (e : Halt) → HasTrace p (of_task.ask t) old mid (Err e) → HasTrace p (continuation_from of_task (xs ++ Call t ∷ []) s) old mid (Err e)
    unasked-took h old mid e k = subst (λ u. HasTrace p u old mid (Err e)) (sym (call-new of_task xs t s lower (with_calls s calls) (count-fits s calls fits counted) h))
        (took-stop p (of_task.ask t) (λ a. continuation_from of_task (xs ++ Block t a.held ∷ calls_of a.priors) (with_calls s calls)) old mid e k)

    -- whose priors are called
    pub asked-took : s.table t.pair ≡ false → (a : Prepared) (ys : List Frame) → ys ≡ xs ++ Block t a.held ∷ calls_of a.priors → (old mid new : Log) (r : Result State Halt) →
        HasTrace p (of_task.ask t) old mid (Ok a) → HasTrace p (continuation_from of_task ys (with_calls s calls)) mid new r → HasTrace p (continuation_from of_task (xs ++ Call t ∷ []) s) old new r
    asked-took h a ys frames old mid new r k l = subst (λ u. HasTrace p u old new r) (sym (call-new of_task xs t s lower (with_calls s calls) (count-fits s calls fits counted) h))
        (took-then p p (keeps-self p) (of_task.ask t) (λ a. continuation_from of_task (xs ++ Block t a.held ∷ calls_of a.priors) (with_calls s calls)) old mid new a r k
        (subst (λ fs. HasTrace p (continuation_from of_task fs (with_calls s calls)) mid new r) frames l))

    -- memory is refused after they were asked for
    pub halted-took : s.table t.pair ≡ false → (a : Prepared) (old mid : Log) → HasTrace p (of_task.ask t) old mid (Ok a) → HasTrace p (continuation_from of_task (xs ++ Call t ∷ []) s) old mid (Err Memory)
    halted-took h a old mid k = asked-took h a (xs ++ Block t a.held ∷ calls_of a.priors) refl old mid mid (Err Memory) k (took-out p (continuation_from of_task (xs ++ Block t a.held ∷ calls_of a.priors) (with_calls s calls)) mid mid refl)

module _ (of_task : TaskInteractions) (lower : IsLower of_task) (p q : Question → Option Answer) (keeps : KeepsPromises p q) (xs : List Frame) (t : Task) (x : Held) (s : State) where
  abbrev last : List Task → Interaction State
  last ts = and_then (fresh_steps (walk_at of_task) ts s.calls) (λ calls. continuation_from of_task xs (ran s t calls))

  -- a block whose body fails
  pub failed-took : (old mid : Log) (e : Halt) → HasTrace p (of_task.execute t x) old mid (Err e) → HasTrace p (continuation_from of_task (xs ++ Block t x ∷ []) s) old mid (Err e)
  failed-took old mid e k = subst (λ u. HasTrace p u old mid (Err e)) (sym (block-left of_task lower xs t x s)) (took-stop p (of_task.execute t x) (λ _. and_then (of_task.follow t x) last) old mid e k)

  -- that is executed, and what follows
  executed-took : (old mid new : Log) (r : Result State Halt) → HasTrace p (of_task.execute t x) old mid (Ok tt) → HasTrace p (and_then (of_task.follow t x) last) mid new r → HasTrace p (continuation_from of_task (xs ++ Block t x ∷ []) s) old new r
  executed-took old mid new r k l = subst (λ u. HasTrace p u old new r) (sym (block-left of_task lower xs t x s)) (took-then p p (keeps-self p) (of_task.execute t x) (λ _. and_then (of_task.follow t x) last) old mid new tt r k l)

  -- the questions for its subsequents fail
  pub unfollowed-took : (old mid new : Log) (e : Halt) → HasTrace p (of_task.execute t x) old mid (Ok tt) → HasTrace q (of_task.follow t x) mid new (Err e) → HasTrace p (continuation_from of_task (xs ++ Block t x ∷ []) s) old new (Err e)
  unfollowed-took old mid new e k l = executed-took old mid new (Err e) k (took-stop p (of_task.follow t x) last mid new e (took-kept p q keeps (of_task.follow t x) mid new (Err e) l))

  -- memory is refused after its subsequents were asked for
  pub stopped-took : (ts : List Task) (old mid next : Log) → HasTrace p (of_task.execute t x) old mid (Ok tt) → HasTrace q (of_task.follow t x) mid next (Ok ts) → HasTrace p (continuation_from of_task (xs ++ Block t x ∷ []) s) old next (Err Memory)
  stopped-took ts old mid next k l = executed-took old mid next (Err Memory) k (took-then p p (keeps-self p) (of_task.follow t x) last mid next next ts (Err Memory)
      (took-kept p q keeps (of_task.follow t x) mid next (Ok ts) l) (took-out p (last ts) next next refl))

  -- its subsequents are called under a table of their own
  pub followed-took : (ts : List Task) (u : Interaction State) → u ≡ last ts → (old mid next new : Log) (r : Result State Halt) →
      HasTrace p (of_task.execute t x) old mid (Ok tt) → HasTrace q (of_task.follow t x) mid next (Ok ts) → HasTrace p u next new r → HasTrace p (continuation_from of_task (xs ++ Block t x ∷ []) s) old new r
  followed-took ts u is old mid next new r k l m = executed-took old mid new r k (took-then p p (keeps-self p) (of_task.follow t x) last mid next new ts r
      (took-kept p q keeps (of_task.follow t x) mid next (Ok ts) l) (subst (λ w. HasTrace p w next new r) is m))

-- an end of a frame ends the run
pub ended-took : (p : Question → Option Answer) (s : Interaction State) (old new : Log) (e : Halt) (x : State) (r : Result (Unit {0}) Halt) → IsErrAnd r (λ y. y ≡ e) → HasTrace p s old new (Err e) → HasTrace p s old new (replace_value x r)
ended-took p s old new e x (Ok u) h k = absurd h
ended-took p s old new e x (Err y) h k = subst (λ d. HasTrace p s old new (Err d)) (sym h) k

-- where no frame is left, nothing is
pub none-took : (of_task : TaskInteractions) (p : Question → Option Answer) (xs : List Frame) (s : State) (old : Log) → xs ≡ [] → HasTrace p (continuation_from of_task xs s) old old (Ok s)
none-took of_task p xs s old is = subst (λ ys. HasTrace p (continuation_from of_task ys s) old old (Ok s)) (sym is) (refl, inl refl)

-- a whole run that ends early
pub ended-calls : (p : Question → Option Answer) (s : Interaction (List ℕ)) (old new : Log) (e : Halt) (r : Result Report Halt) → IsErrAnd r (λ y. y ≡ e) → HasTrace p s old new (Err e) → HasTrace p s old new (calls_in r)
ended-calls p s old new e (Ok u) h k = absurd h
ended-calls p s old new e (Err y) h k = subst (λ d. HasTrace p s old new (Err d)) (sym h) k

-- a whole run, from its first frames
module _ (of_task : TaskInteractions) (lower : IsLower of_task) (n : ℕ) (tasks : List Task) (some : tasks ≢ []) (below : AllBelow n tasks) (xs : List Frame) (s : State) (frames : xs ≡ calls_of tasks) (first : s ≡ opened []) where
  begun : fresh_steps (walk_steps of_task n) tasks [] ≡ and_then (continuation_from of_task xs s) (λ s. Return s.calls)
  begun = first-frames of_task lower n tasks some below ∙ ap (λ ys. and_then (continuation_from of_task ys (opened [])) (λ s. Return s.calls)) (sym frames) ∙ ap (λ s. and_then (continuation_from of_task xs s) (λ s. Return s.calls)) (sym first)

  pub whole-stop : (p : Question → Option Answer) (old new : Log) (e : Halt) → HasTrace p (continuation_from of_task xs s) old new (Err e) → HasTrace p (fresh_steps (walk_steps of_task n) tasks []) old new (Err e)
  whole-stop p old new e k = subst (λ u. HasTrace p u old new (Err e)) (sym begun) (took-stop p (continuation_from of_task xs s) (λ s. Return s.calls) old new e k)

  pub whole-took : (p : Question → Option Answer) (old new : Log) (last : State) → HasTrace p (continuation_from of_task xs s) old new (Ok last) → HasTrace p (fresh_steps (walk_steps of_task n) tasks []) old new (Ok last.calls)
  whole-took p old new last k = subst (λ u. HasTrace p u old new (Ok last.calls)) (sym begun) (took-then p p (keeps-self p) (continuation_from of_task xs s) (λ s. Return s.calls) old new new last (Ok last.calls) k (refl, inl refl))
