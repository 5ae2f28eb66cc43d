-- Frames and counters, as the code changes them.
use Rattle.std.specs.List.{All}
use Rattle.std.proofs.Common.{◌≡◌, ◌≢◌, ℕ, zero, suc, ◌+◌, ◌^◌, ◌<◌, ◌≤◌, List, [], ◌∷◌, ◌++◌, length, get_or, set, refl, sym, ◌∙◌, ap, subst, arith, append_assoc}
use Rattle.std.proofs.lemmas.List.{length_push}
use Rattle.std.proofs.lemmas.List.Elements.{All-nil, All-cons, All-append, All-head, All-tail, All-weaker}
use Rattle.just_run_layers.specs.Interactions.{Interaction, and_then}
use Rattle.just_run_layers.specs.declared.held.Held.{Held}
use Rattle.just_execution.specs.declared.run_state.RunState.{RunState}
use Rattle.just_execution.specs.declared.frame.Frame.{Frame}
use Rattle.just_execution.specs.declared.frame.Frame.TheVariants.{Call, Block, Back}
use Rattle.just_execution.specs.declared.frame.OpenTable.{OpenTable}
use Rattle.just_tasks.specs.declared.pair.Pair.{Pair}
use Rattle.just_execution.specs.loops.Frames.{walk_at, with_calls, under, continuation_from, calls_of, IsSoundFrame, AreSoundFrames, state_of, IsSound, IsLighter, IsOpened, continuation_of}
use Rattle.just_execution.specs.loops.Homes.{IsCallable, IsServed}
use Rattle.just_tasks.specs.declared.task.Task.{Task}
use Rattle.just_tasks.specs.Pairs.{AllBelow, put_in}
use Rattle.just_execution.specs.loops.Pairs.{table_of}
use Rattle.just_execution.specs.Walking.{TaskInteractions, State, add_at, counted, opened, fresh_steps, ran}
use Rattle.just_execution.proofs.FrameLemmas.{opened-left}
use Rattle.just_execution.proofs.WeightLemmas.{block-lighter, taken-lighter}
use Rattle.just_execution.proofs.Joined.{length-add}

pub add-set : (ns : List ℕ) (i d a : ℕ) → i < length ns → set ns i (get_or ns i d + a) ≡ add_at ns i a
add-set [] i d a h = absurd (omega arith)
add-set (n ∷ ns) zero d a h = refl
add-set (n ∷ ns) (suc i) d a h = ap (λ x. n ∷ x) (add-set ns i d a (omega arith))

-- the last task is called last
pub calls-last : (ts : List Task) (t : Task) → calls_of (ts ++ t ∷ []) ≡ Call t ∷ calls_of ts
calls-last [] t = refl
calls-last (u ∷ ts) t = ap (λ x. x ++ Call u ∷ []) (calls-last ts t)

-- one more task is called
pub one-called : (frames more all : List Frame) (older right : List Task) (t : Task) → right ≡ older ++ t ∷ [] → more ≡ frames ++ Call t ∷ [] → frames ++ calls_of right ≡ all → more ++ calls_of older ≡ all
one-called frames more all older right t is pushed h =
    ap (λ x. x ++ calls_of older) pushed ∙ append_assoc frames (Call t ∷ []) (calls_of older)
    ∙ ap (λ x. frames ++ x) (sym (calls-last older t) ∙ ap calls_of (sym is)) ∙ h

-- a frame is put in, and tasks are called above it
pub pushed-calls : (one xs : List Frame) (x : Frame) (ts : List Task) (all : List Frame) → one ≡ xs ++ x ∷ [] → all ≡ one ++ calls_of ts → all ≡ xs ++ x ∷ calls_of ts
pushed-calls one xs x ts all e h = h ∙ ap (λ ys. ys ++ calls_of ts) e ∙ append_assoc xs (x ∷ []) (calls_of ts)

pub first-calls : (one all : List Frame) (ts : List Task) → one ≡ [] → all ≡ one ++ calls_of ts → all ≡ calls_of ts
first-calls one all ts none h = h ∙ ap (λ xs. xs ++ calls_of ts) none

-- the frames that are open stay so while counters are added
open-more : (P : Task → Type 0) (Q : Task → Held → Type 0) (n m : ℕ) → n ≤ m → (x : Frame) → IsSoundFrame P Q n x → IsSoundFrame P Q m x
open-more P Q n m l (Call t) h = h
open-more P Q n m l (Block t x) h = h
open-more P Q n m l (Back outer) h = omega arith

pub opens-more : (P : Task → Type 0) (Q : Task → Held → Type 0) (n m : ℕ) → n ≤ m → (xs : List Frame) → AreSoundFrames P Q n xs → AreSoundFrames P Q m xs
opens-more P Q n m l xs h = All-weaker (IsSoundFrame P Q n) (IsSoundFrame P Q m) (open-more P Q n m l) xs h

-- tasks below a place are open above other frames
pub opens-calls : (P : Task → Type 0) (Q : Task → Held → Type 0) (n : ℕ) (ts : List Task) → All P ts → AreSoundFrames P Q n (calls_of ts)
opens-calls P Q n [] b = All-nil (IsSoundFrame P Q n)
opens-calls P Q n (t ∷ ts) b = All-append (IsSoundFrame P Q n) (calls_of ts) (Call t ∷ [])
    (opens-calls P Q n ts (All-tail P t ts b))
    (All-cons (IsSoundFrame P Q n) (Call t) [] (All-head P t ts b) (All-nil (IsSoundFrame P Q n)))

pub opens-over : (P : Task → Type 0) (Q : Task → Held → Type 0) (n : ℕ) (xs : List Frame) (x : Frame) (ts : List Task) → AreSoundFrames P Q n xs → IsSoundFrame P Q n x → All P ts → AreSoundFrames P Q n (xs ++ x ∷ calls_of ts)
opens-over P Q n xs x ts h k b = All-append (IsSoundFrame P Q n) xs (x ∷ calls_of ts) h (All-cons (IsSoundFrame P Q n) x (calls_of ts) k (opens-calls P Q n ts b))

-- tasks are called under a table of their own
left-opened : (of_task : TaskInteractions) (xs : List Frame) (outer : OpenTable) (tasks : List Task) (calls : List ℕ) → tasks ≢ [] →
    continuation_from of_task (xs ++ Back outer ∷ calls_of tasks) (opened calls) ≡ and_then (fresh_steps (walk_at of_task) tasks calls) (λ calls. continuation_from of_task xs (under outer calls))
left-opened of_task xs outer [] calls some = absurd (some refl)
left-opened of_task xs outer (t ∷ ts) calls some = opened-left of_task xs outer t ts calls

module _ (old new : RunState) (tasks : List Task) (frames : new.frames.items ≡ old.frames.items ++ Back old.current ∷ calls_of tasks) (state : state_of new ≡ opened old.calls.items) where
  state-opened : tasks ≢ [] → (of_task : TaskInteractions) → continuation_of of_task new ≡ and_then (fresh_steps (walk_at of_task) tasks old.calls.items) (λ calls. continuation_from of_task old.frames.items (with_calls (state_of old) calls))
  state-opened some of_task = ap (λ xs. continuation_from of_task xs (state_of new)) frames ∙ ap (continuation_from of_task (old.frames.items ++ Back old.current ∷ calls_of tasks)) state
      ∙ left-opened of_task old.frames.items old.current tasks old.calls.items some

  sound-opened : (P : Task → Type 0) (Q : Task → Held → Type 0) → IsSound P Q old → All P tasks → IsSound P Q new
  sound-opened P Q sound below =
      let calls : new.calls.items ≡ old.calls.items ++ 0 ∷ [] = ap (λ s. s.calls) state in
      let more : length new.calls.items ≡ length old.calls.items + 1 = ap length calls ∙ length_push old.calls.items 0 in
      let number : new.current.number ≡ length old.calls.items = ap (λ s. s.number) state in
      record {
        frames = subst (AreSoundFrames P Q (length new.calls.items)) (sym frames)
            (opens-over P Q (length new.calls.items) old.frames.items (Back old.current) tasks (opens-more P Q (length old.calls.items) (length new.calls.items) (omega arith) old.frames.items sound.frames) (omega (arith, sound.number)) below);
        number = omega arith;
      }

-- a table is opened; or none, where there are no tasks
pub is-opened : (old new : RunState) (tasks : List Task) → new.frames.items ≡ old.frames.items ++ Back old.current ∷ calls_of tasks → state_of new ≡ opened old.calls.items → tasks ≢ [] → length tasks < 2 ^ 64 → IsOpened old tasks new
is-opened old new tasks frames state some few = record {
  left = state-opened old new tasks frames state some;
  sound = λ answers modules recipes callables sound. sound-opened old new tasks frames state (IsCallable answers modules recipes) (IsServed answers modules recipes) sound callables;
  lighter = λ t h below. subst (λ fs. IsLighter fs old.frames.items (Block t h)) (sym frames) (block-lighter (2 ^ 64) old.frames.items t h old.current tasks below few);
}

pub not-opened : (old : RunState) (tasks : List Task) → length tasks ≡ 0 → IsOpened old tasks old
not-opened old (t ∷ ts) none = absurd (omega arith)
not-opened old [] none = record {
  left = λ of_task. refl;
  sound = λ answers modules recipes callables sound. sound;
  lighter = λ t h below. taken-lighter (2 ^ 64) old.frames.items (Block t h);
}

-- a call that is counted leaves the run sound
pub counted-sound : (P : Task → Type 0) (Q : Task → Held → Type 0) (old new : RunState) → state_of new ≡ counted (state_of old) → new.frames.items ≡ old.frames.items → IsSound P Q old → IsSound P Q new
counted-sound P Q old new state frames sound =
    let long : length new.calls.items ≡ length old.calls.items = ap (λ s. length s.calls) state ∙ length-add old.calls.items old.current.number 1 in
    let number : new.current.number ≡ old.current.number = ap (λ s. s.number) state in
    record {
      frames = subst (AreSoundFrames P Q (length new.calls.items)) (sym frames) (opens-more P Q (length old.calls.items) (length new.calls.items) (omega arith) old.frames.items sound.frames);
      number = omega (arith, sound.number);
    }

pub below-more : (n m : ℕ) (ts : List Task) → n ≤ m → AllBelow n ts → AllBelow m ts
below-more n m ts l h = All-weaker (λ (t : Task). t.pair.recipe < n) (λ (t : Task). t.pair.recipe < m) (λ t k. omega arith) ts h

-- and so does a task whose priors are called
pub called-sound : (P : Task → Type 0) (Q : Task → Held → Type 0) (old new : RunState) (t : Task) (h : Held) (ps : List Task) → state_of new ≡ counted (state_of old) → new.frames.items ≡ old.frames.items ++ Block t h ∷ calls_of ps →
    P t → Q t h → All P ps → IsSound P Q old → IsSound P Q new
called-sound P Q old new t h ps state frames callable served callables sound =
    let long : length new.calls.items ≡ length old.calls.items = ap (λ s. length s.calls) state ∙ length-add old.calls.items old.current.number 1 in
    let number : new.current.number ≡ old.current.number = ap (λ s. s.number) state in
    record {
      frames = subst (AreSoundFrames P Q (length new.calls.items)) (sym frames) (opens-over P Q (length new.calls.items) old.frames.items (Block t h) ps
          (opens-more P Q (length old.calls.items) (length new.calls.items) (omega arith) old.frames.items sound.frames) (callable, served) callables);
      number = omega (arith, sound.number);
    }

-- the pair of a task that was executed is put in, and its subsequents are called
pub block-last : (of_task : TaskInteractions) (old : RunState) (t : Task) (table : List Pair) (ts : List Task) (u : Interaction State) → table_of table ≡ put_in (table_of old.current.table) t.pair →
    u ≡ and_then (fresh_steps (walk_at of_task) ts old.calls.items) (λ calls. continuation_from of_task old.frames.items (under (record { number = old.current.number; table = table }) calls)) →
    u ≡ and_then (fresh_steps (walk_at of_task) ts old.calls.items) (λ calls. continuation_from of_task old.frames.items (ran (state_of old) t calls))
block-last of_task old t table ts u is h =
    h ∙ ap (λ now. and_then (fresh_steps (walk_at of_task) ts old.calls.items) (λ calls. continuation_from of_task old.frames.items (record { number = old.current.number; table = now; calls = calls }))) is

-- the first calls of a run
pub begun-sound : (P : Task → Type 0) (Q : Task → Held → Type 0) (run : RunState) (tasks : List Task) → run.frames.items ≡ calls_of tasks → state_of run ≡ opened [] → All P tasks → IsSound P Q run
begun-sound P Q run tasks frames state callables = record {
  frames = subst (AreSoundFrames P Q (length run.calls.items)) (sym frames) (opens-calls P Q (length run.calls.items) tasks callables);
  number = let n : run.current.number ≡ 0 = ap (λ s. s.number) state in let k : length run.calls.items ≡ 1 = ap (λ s. length s.calls) state in omega arith;
}
