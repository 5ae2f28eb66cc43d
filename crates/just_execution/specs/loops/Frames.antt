-- What is left of a run: frames in a list, the last of which is taken next.
use Rattle.std.specs.Prelude.{◌≡◌, ◌+◌, ◌*◌, ◌^◌, ◌<◌, ℕ, zero, suc, List, [], ◌∷◌, ◌++◌, length, Option, Result, Ok, Err}
use Rattle.std.specs.List.{All}
use Rattle.std.specs.declared.vec.Vec.{Vec}
use Rattle.std.specs.declared.alloc.Global.{Global}
use Rattle.just_errors.specs.declared.halt.Halt.{Halt}
use Rattle.just_run_layers.specs.declared.host.Entry.{Entry}
use Rattle.just_recipe.specs.declared.dependency.Dependency.{Dependency}
use Rattle.just_recipe.specs.declared.recipe.Recipe.{Recipe}
use Rattle.just_run_layers.specs.Evaluation.{Inquiry}
use Rattle.just_run_layers.specs.declared.held.Held.{Held}
use Rattle.just_run_layers.specs.Host.{Answer}
use Rattle.just_run_layers.specs.Interactions.{Log, Question, Interaction, Return, and_then, HasTrace, both}
use Rattle.just_execution.specs.declared.run_state.RunState.{RunState}
use Rattle.just_execution.specs.declared.frame.Frame.{Frame}
use Rattle.just_execution.specs.declared.frame.Frame.TheVariants.{Call, Block, Back}
use Rattle.just_execution.specs.declared.frame.OpenTable.{OpenTable}
use Rattle.just_tasks.specs.declared.task.Task.{Task}
use Rattle.just_parts.specs.Syntax.{SyntaxAnswers}
use Rattle.just_tasks.specs.Homes.{Modules}
use Rattle.just_execution.specs.loops.Homes.{IsCallable, IsServed}
use Rattle.just_tasks.specs.Pairs.{AllBelow}
use Rattle.just_execution.specs.loops.Pairs.{table_of}
use Rattle.just_execution.specs.TaskInteractions.{interactions_of}
use Rattle.just_tasks.specs.Scene.{Scene}
use Rattle.just_execution.specs.Walking.{TaskInteractions, State, fresh_steps, ran_steps, walk_steps}

-- the walk of a task, with as much fuel as its place needs
abbrev pub walk_at : TaskInteractions → State → Task → Interaction State
walk_at of_task s t = walk_steps of_task (suc t.pair.recipe) s t

abbrev pub block_at : TaskInteractions → Task → Held → State → Interaction State
block_at of_task t h s = ran_steps of_task (walk_steps of_task t.pair.recipe) t h s

-- the state with other counters
abbrev pub with_calls : State → List ℕ → State
with_calls s calls = record { number = s.number; table = s.table; calls = calls }

-- the state in which a table is open
abbrev pub under : OpenTable → List ℕ → State
under outer calls = record { number = outer.number; table = table_of outer.table; calls = calls }

-- what a frame stands for
abbrev pub frame_steps : TaskInteractions → Frame → State → Interaction State
frame_steps of_task (Call t) s = walk_at of_task s t
frame_steps of_task (Block t h) s = block_at of_task t h s
frame_steps of_task (Back outer) s = Return (under outer s.calls)

-- what is left
abbrev pub continuation_from : TaskInteractions → List Frame → State → Interaction State
continuation_from of_task [] s = Return s
continuation_from of_task (x ∷ xs) s = and_then (continuation_from of_task xs s) (frame_steps of_task x)

-- the calls of tasks, the first of which is taken next
abbrev pub calls_of : List Task → List Frame
calls_of [] = []
calls_of (t ∷ ts) = calls_of ts ++ Call t ∷ []

-- its task can be called (by what P says) and what it holds serves it (by what Q says), or its counter is there
abbrev pub IsSoundFrame : (Task → Type 0) → (Task → Held → Type 0) → ℕ → Frame → Type 0
IsSoundFrame P Q counters (Call t) = P t
IsSoundFrame P Q counters (Block t h) = P t × Q t h
IsSoundFrame P Q counters (Back outer) = outer.number < counters

abbrev pub AreSoundFrames : (Task → Type 0) → (Task → Held → Type 0) → ℕ → List Frame → Type 0
AreSoundFrames P Q counters frames = All (IsSoundFrame P Q counters) frames

-- How much is left at most, where a task leads to fewer than `most` others: it falls with each frame that is taken.
abbrev pub cost : ℕ → ℕ → ℕ
cost most zero = 1
cost most (suc n) = suc (suc (most * cost most n) + most * cost most n)

abbrev pub frame_weight : ℕ → Frame → ℕ
frame_weight most (Call t) = cost most (suc t.pair.recipe)
frame_weight most (Block t h) = suc (most * cost most t.pair.recipe)
frame_weight most (Back outer) = 1

abbrev pub weight : ℕ → List Frame → ℕ
weight most [] = 0
weight most (x ∷ xs) = frame_weight most x + weight most xs

-- where a run under way stands
abbrev pub state_of : RunState → State
state_of run = under run.current run.calls.items

-- each task that is left can be called, what it holds serves it, and each table has its counter
pub record IsSound (P : Task → Type 0) (Q : Task → Held → Type 0) (run : RunState) : Type 0 where
  pub frames : AreSoundFrames P Q (length run.calls.items) run.frames.items
  pub number : run.current.number < length run.calls.items

-- so of a run in modules
abbrev pub IsSoundIn : SyntaxAnswers → Modules → List (Recipe Dependency) → RunState → Type 0
IsSoundIn answers modules recipes run = IsSound (IsCallable answers modules recipes) (IsServed answers modules recipes) run

abbrev pub IsSoundFrameIn : SyntaxAnswers → Modules → List (Recipe Dependency) → ℕ → Frame → Type 0
IsSoundFrameIn answers modules recipes counters frame = IsSoundFrame (IsCallable answers modules recipes) (IsServed answers modules recipes) counters frame

-- what is left of it; and with one more frame
abbrev pub continuation_of : TaskInteractions → RunState → Interaction State
continuation_of of_task run = continuation_from of_task run.frames.items (state_of run)

abbrev pub continuation_with : TaskInteractions → Frame → RunState → Interaction State
continuation_with of_task frame run = continuation_from of_task (run.frames.items ++ frame ∷ []) (state_of run)

-- steps were taken, from the first to the second where it succeeds
abbrev pub Simulates : {A U : Type 0} → (Question → Option Answer) → Interaction A → Log → Interaction A → Log → Result U Halt → Type 0
Simulates {A} promised first old second mid (Ok u) = (new : Log) (r : Result A Halt) → HasTrace promised second mid new r → HasTrace promised first old new r
Simulates promised first old second mid (Err e) = HasTrace promised first old mid (Err e)

-- a value in place of that of a success
abbrev pub replace_value : {A U E : Type 0} → A → Result U E → Result A E
replace_value x (Ok u) = Ok x
replace_value x (Err e) = Err e

-- a frame of a run in a scene leads from what was left to what is left
abbrev pub SimulatesFrame : (Inquiry → Option Answer) → (Entry → Option Answer) → Scene → Frame → RunState → Log → RunState → Log → Result (Unit {0}) Halt → Type 0
SimulatesFrame evaluator host scene frame old kept new keeps result =
    Simulates (both evaluator host) (continuation_with (interactions_of scene) frame old) kept (continuation_of (interactions_of scene) new) keeps result

-- the call of a task; and its block, with what it holds
abbrev pub SimulatesCall : (Inquiry → Option Answer) → (Entry → Option Answer) → Scene → Task → RunState → Log → RunState → Log → Result (Unit {0}) Halt → Type 0
SimulatesCall evaluator host scene task old kept new keeps result = SimulatesFrame evaluator host scene (Call task) old kept new keeps result

abbrev pub SimulatesBlock : (Inquiry → Option Answer) → (Entry → Option Answer) → Scene → Task → Held → RunState → Log → RunState → Log → Result (Unit {0}) Halt → Type 0
SimulatesBlock evaluator host scene task held old kept new keeps result = SimulatesFrame evaluator host scene (Block task held) old kept new keeps result

-- all that was left was taken
abbrev pub SimulatesRest : (Inquiry → Option Answer) → (Entry → Option Answer) → Scene → RunState → Log → RunState → Log → Result (Unit {0}) Halt → Type 0
SimulatesRest evaluator host scene old kept new keeps result =
    HasTrace (both evaluator host) (continuation_of (interactions_of scene) old) kept keeps (replace_value (state_of new) result)

-- fewer is left than a frame more
abbrev pub IsLighter : List Frame → List Frame → Frame → Type 0
IsLighter new old frame = weight (2 ^ 64) new < weight (2 ^ 64) (old ++ frame ∷ [])

-- tasks are called next under a table of their own, where there are any
pub record IsOpened (old : RunState) (tasks : List Task) (new : RunState) : Type 0 where
  pub left : (of_task : TaskInteractions) → continuation_of of_task new ≡
      and_then (fresh_steps (walk_at of_task) tasks old.calls.items) (λ calls. continuation_from of_task old.frames.items (with_calls (state_of old) calls))
  pub sound : (answers : SyntaxAnswers) (modules : Modules) (recipes : List (Recipe Dependency)) → All (IsCallable answers modules recipes) tasks →
      IsSoundIn answers modules recipes old → IsSoundIn answers modules recipes new
  pub lighter : (task : Task) (held : Held) → AllBelow task.pair.recipe tasks → IsLighter new.frames.items old.frames.items (Block task held)

-- the elements of a vector that came out
abbrev pub items_of_frames : {A E : Type 0} → Result (Vec A Global) E → Result (List A) E
items_of_frames (Ok v) = Ok v.items
items_of_frames (Err e) = Err e
