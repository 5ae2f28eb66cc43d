-- What is left of a run, frame by frame.
use Rattle.std.proofs.Common.{◌≡◌, ◌≢◌, ℕ, zero, suc, ◌<◌, true, false, cond, List, [], ◌∷◌, ◌++◌, refl, sym, ◌∙◌, ap, arith}
use Rattle.std.proofs.lemmas.Bool.{cond-true, cond-false}
use Rattle.std.proofs.lemmas.List.Elements.{All-head, All-tail}
use Rattle.just_errors.specs.declared.halt.Halt.TheVariants.{Exhausted}
use Rattle.just_run_layers.specs.declared.held.Held.{Held}
use Rattle.just_run_layers.specs.Interactions.{Interaction, Return, Fail, and_then}
use Rattle.just_run_layers.proofs.InteractionLemmas.{then-assoc, then-give, then-each, then-same}
use Rattle.just_execution.specs.declared.frame.Frame.{Frame}
use Rattle.just_execution.specs.declared.frame.Frame.TheVariants.{Call, Block, Back}
use Rattle.just_execution.specs.declared.frame.OpenTable.{OpenTable}
use Rattle.just_execution.specs.loops.Frames.{walk_at, under, frame_steps, continuation_from, calls_of}
use Rattle.just_execution.specs.loops.Lower.{IsLower}
use Rattle.just_tasks.specs.declared.task.Task.{Task}
use Rattle.just_tasks.specs.Pairs.{AllBelow}
use Rattle.just_execution.specs.Walking.{TaskInteractions, State, count_steps, all_steps, opened, fresh_steps, block_steps, ran, ran_steps, visit_steps, walk_steps}

-- walks that agree below a place agree on lists of tasks below it
module _ (v w : State → Task → Interaction State) (k : ℕ) (same : (s : State) (t : Task) → t.pair.recipe < k → v s t ≡ w s t) where
  pub all-same : (ts : List Task) → AllBelow k ts → (s : State) → all_steps v s ts ≡ all_steps w s ts
  all-same [] b s = refl
  all-same (t ∷ ts) b s =
      ap (λ x. and_then x (λ now. all_steps v now ts)) (same s t (All-head (λ (t : Task). t.pair.recipe < k) t ts b))
      ∙ then-same (w s t) (λ now. all_steps v now ts) (λ now. all_steps w now ts) (all-same ts (All-tail (λ (t : Task). t.pair.recipe < k) t ts b))

  pub fresh-same : (ts : List Task) → AllBelow k ts → (calls : List ℕ) → fresh_steps v ts calls ≡ fresh_steps w ts calls
  fresh-same [] b calls = refl
  fresh-same (t ∷ ts) b calls = ap (λ x. and_then x (λ s. Return s.calls)) (all-same (t ∷ ts) b (opened calls))

module _ (of_task : TaskInteractions) (lower : IsLower of_task) where
  module _ (v w : State → Task → Interaction State) (t : Task) (same : (s : State) (u : Task) → u.pair.recipe < t.pair.recipe → v s u ≡ w s u) where
    pub block-same : (h : Held) (calls : List ℕ) → block_steps of_task v t h calls ≡ block_steps of_task w t h calls
    block-same h calls = then-same (of_task.execute t h) (λ _. and_then (of_task.follow t h) (λ ts. fresh_steps v ts calls)) (λ _. and_then (of_task.follow t h) (λ ts. fresh_steps w ts calls))
        (λ u. then-each (of_task.follow t h) (λ ts. fresh_steps v ts calls) (λ ts. fresh_steps w ts calls) (λ ts g. fresh-same v w t.pair.recipe same ts (lower.subsequents t h ts g) calls))

    pub ran-same : (h : Held) (s : State) → ran_steps of_task v t h s ≡ ran_steps of_task w t h s
    ran-same h s = ap (λ x. and_then x (λ calls. Return (ran s t calls))) (block-same h s.calls)

    visit-same : (s : State) → visit_steps of_task v t s ≡ visit_steps of_task w t s
    visit-same s = ap (λ x. cond (s.table t.pair) (Return s) x)
        (then-each (of_task.ask t) (λ a. and_then (all_steps v s a.priors) (ran_steps of_task v t a.held)) (λ a. and_then (all_steps w s a.priors) (ran_steps of_task w t a.held))
        (λ a g. ap (λ x. and_then x (ran_steps of_task v t a.held)) (all-same v w t.pair.recipe same a.priors (lower.priors t a g) s)
        ∙ then-same (all_steps w s a.priors) (ran_steps of_task v t a.held) (ran_steps of_task w t a.held) (ran-same a.held)))

  -- more fuel changes nothing
  pub agree : (n m : ℕ) (s : State) (t : Task) → t.pair.recipe < n → t.pair.recipe < m → walk_steps of_task n s t ≡ walk_steps of_task m s t
  agree zero m s t l k = absurd (omega arith)
  agree (suc n) zero s t l k = absurd (omega arith)
  agree (suc n) (suc m) s t l k = then-same (count_steps s) (visit_steps of_task (walk_steps of_task n) t) (visit_steps of_task (walk_steps of_task m) t)
      (visit-same (walk_steps of_task n) (walk_steps of_task m) t (λ s u i. agree n m s u (omega arith) (omega arith)))

  pub at-place : (n : ℕ) (s : State) (t : Task) → t.pair.recipe < n → walk_steps of_task n s t ≡ walk_at of_task s t
  at-place n s t l = agree n (suc t.pair.recipe) s t l (omega arith)

  pub all-at : (n : ℕ) (ts : List Task) → AllBelow n ts → (s : State) → all_steps (walk_steps of_task n) s ts ≡ all_steps (walk_at of_task) s ts
  all-at n ts b s = all-same (walk_steps of_task n) (walk_at of_task) n (at-place n) ts b s

  pub fresh-at : (n : ℕ) (ts : List Task) → AllBelow n ts → (calls : List ℕ) → fresh_steps (walk_steps of_task n) ts calls ≡ fresh_steps (walk_at of_task) ts calls
  fresh-at n ts b calls = fresh-same (walk_steps of_task n) (walk_at of_task) n (at-place n) ts b calls

-- frames below others are taken after them
pub left-append : (of_task : TaskInteractions) (xs ys : List Frame) (s : State) → continuation_from of_task (xs ++ ys) s ≡ and_then (continuation_from of_task ys s) (continuation_from of_task xs)
left-append of_task [] ys s = sym (then-give (continuation_from of_task ys s))
left-append of_task (x ∷ xs) ys s = ap (λ u. and_then u (frame_steps of_task x)) (left-append of_task xs ys s) ∙ then-assoc (continuation_from of_task ys s) (continuation_from of_task xs) (frame_steps of_task x)

pub left-calls : (of_task : TaskInteractions) (ts : List Task) (s : State) → continuation_from of_task (calls_of ts) s ≡ all_steps (walk_at of_task) s ts
left-calls of_task [] s = refl
left-calls of_task (t ∷ ts) s = left-append of_task (calls_of ts) (Call t ∷ []) s ∙ then-same (walk_at of_task s t) (continuation_from of_task (calls_of ts)) (λ now. all_steps (walk_at of_task) now ts) (left-calls of_task ts)

-- tasks are called above a frame
pub left-over : (of_task : TaskInteractions) (xs : List Frame) (x : Frame) (ts : List Task) (s : State) →
    continuation_from of_task (xs ++ x ∷ calls_of ts) s ≡ and_then (all_steps (walk_at of_task) s ts) (λ now. and_then (frame_steps of_task x now) (continuation_from of_task xs))
left-over of_task xs x ts s =
    left-append of_task xs (x ∷ calls_of ts) s
    ∙ ap (λ u. and_then (and_then u (frame_steps of_task x)) (continuation_from of_task xs)) (left-calls of_task ts s)
    ∙ then-assoc (all_steps (walk_at of_task) s ts) (frame_steps of_task x) (continuation_from of_task xs)

-- the call of a task
module _ (of_task : TaskInteractions) (xs : List Frame) (t : Task) (s : State) where
  call-left : continuation_from of_task (xs ++ Call t ∷ []) s ≡ and_then (count_steps s) (λ now. and_then (visit_steps of_task (walk_steps of_task t.pair.recipe) t now) (continuation_from of_task xs))
  call-left = left-append of_task xs (Call t ∷ []) s ∙ then-assoc (count_steps s) (visit_steps of_task (walk_steps of_task t.pair.recipe) t) (continuation_from of_task xs)

  -- no counter is left for it
  pub call-over : count_steps s ≡ Fail Exhausted → continuation_from of_task (xs ++ Call t ∷ []) s ≡ Fail Exhausted
  call-over e = call-left ∙ ap (λ u. and_then u (λ now. and_then (visit_steps of_task (walk_steps of_task t.pair.recipe) t now) (continuation_from of_task xs))) e

  -- its pair ran
  pub call-known : (now : State) → count_steps s ≡ Return now → now.table t.pair ≡ true → continuation_from of_task (xs ++ Call t ∷ []) s ≡ continuation_from of_task xs now
  call-known now e h = call-left ∙ ap (λ u. and_then u (λ now. and_then (visit_steps of_task (walk_steps of_task t.pair.recipe) t now) (continuation_from of_task xs))) e
      ∙ ap (λ u. and_then u (continuation_from of_task xs)) (cond-true (now.table t.pair) _ _ h)

  -- it is to run: its questions, and then its priors above its block
  pub call-new : IsLower of_task → (now : State) → count_steps s ≡ Return now → now.table t.pair ≡ false →
      continuation_from of_task (xs ++ Call t ∷ []) s ≡ and_then (of_task.ask t) (λ a. continuation_from of_task (xs ++ Block t a.held ∷ calls_of a.priors) now)
  call-new lower now e h =
      let walk : State → Task → Interaction State = walk_steps of_task t.pair.recipe in
      call-left ∙ ap (λ u. and_then u (λ now. and_then (visit_steps of_task walk t now) (continuation_from of_task xs))) e
      ∙ ap (λ u. and_then u (continuation_from of_task xs)) (cond-false (now.table t.pair) _ _ h)
      ∙ then-assoc (of_task.ask t) (λ a. and_then (all_steps walk now a.priors) (ran_steps of_task walk t a.held)) (continuation_from of_task xs)
      ∙ then-each (of_task.ask t) (λ a. and_then (and_then (all_steps walk now a.priors) (ran_steps of_task walk t a.held)) (continuation_from of_task xs)) (λ a. continuation_from of_task (xs ++ Block t a.held ∷ calls_of a.priors) now)
      (λ a g. then-assoc (all_steps walk now a.priors) (ran_steps of_task walk t a.held) (continuation_from of_task xs)
      ∙ ap (λ u. and_then u (λ s. and_then (ran_steps of_task walk t a.held s) (continuation_from of_task xs))) (all-at of_task lower t.pair.recipe a.priors (lower.priors t a g) now)
      ∙ sym (left-over of_task xs (Block t a.held) a.priors now))

-- the block of a task
pub block-left : (of_task : TaskInteractions) → IsLower of_task → (xs : List Frame) (t : Task) (h : Held) (s : State) → continuation_from of_task (xs ++ Block t h ∷ []) s ≡
    and_then (of_task.execute t h) (λ _. and_then (of_task.follow t h) (λ ts. and_then (fresh_steps (walk_at of_task) ts s.calls) (λ calls. continuation_from of_task xs (ran s t calls))))
block-left of_task lower xs t h s =
    let walk : State → Task → Interaction State = walk_steps of_task t.pair.recipe in
    let last : List ℕ → Interaction State = λ calls. continuation_from of_task xs (ran s t calls) in
    left-append of_task xs (Block t h ∷ []) s
    ∙ then-assoc (block_steps of_task walk t h s.calls) (λ calls. Return (ran s t calls)) (continuation_from of_task xs)
    ∙ then-assoc (of_task.execute t h) (λ _. and_then (of_task.follow t h) (λ ts. fresh_steps walk ts s.calls)) last
    ∙ then-same (of_task.execute t h) (λ _. and_then (and_then (of_task.follow t h) (λ ts. fresh_steps walk ts s.calls)) last) (λ _. and_then (of_task.follow t h) (λ ts. and_then (fresh_steps (walk_at of_task) ts s.calls) last))
    (λ u. then-assoc (of_task.follow t h) (λ ts. fresh_steps walk ts s.calls) last
    ∙ then-each (of_task.follow t h) (λ ts. and_then (fresh_steps walk ts s.calls) last) (λ ts. and_then (fresh_steps (walk_at of_task) ts s.calls) last)
    (λ ts g. ap (λ u. and_then u last) (fresh-at of_task lower t.pair.recipe ts (lower.subsequents t h ts g) s.calls)))

-- a table is opened above another
pub opened-left : (of_task : TaskInteractions) (xs : List Frame) (outer : OpenTable) (t : Task) (ts : List Task) (calls : List ℕ) →
    continuation_from of_task (xs ++ Back outer ∷ calls_of (t ∷ ts)) (opened calls) ≡ and_then (fresh_steps (walk_at of_task) (t ∷ ts) calls) (λ calls. continuation_from of_task xs (under outer calls))
opened-left of_task xs outer t ts calls =
    left-over of_task xs (Back outer) (t ∷ ts) (opened calls)
    ∙ sym (then-assoc (all_steps (walk_at of_task) (opened calls) (t ∷ ts)) (λ s. Return s.calls) (λ calls. continuation_from of_task xs (under outer calls)))

-- and left again
pub back-left : (of_task : TaskInteractions) (xs : List Frame) (outer : OpenTable) (s : State) → continuation_from of_task (xs ++ Back outer ∷ []) s ≡ continuation_from of_task xs (under outer s.calls)
back-left of_task xs outer s = left-append of_task xs (Back outer ∷ []) s

-- a whole run is that of its first calls
pub first-frames : (of_task : TaskInteractions) → IsLower of_task → (n : ℕ) (tasks : List Task) → tasks ≢ [] → AllBelow n tasks →
    fresh_steps (walk_steps of_task n) tasks [] ≡ and_then (continuation_from of_task (calls_of tasks) (opened [])) (λ s. Return s.calls)
first-frames of_task lower n [] some below = absurd (some refl)
first-frames of_task lower n (t ∷ ts) some below = ap (λ u. and_then u (λ s. Return s.calls)) (all-at of_task lower n (t ∷ ts) below (opened []) ∙ sym (left-calls of_task (t ∷ ts) (opened [])))
