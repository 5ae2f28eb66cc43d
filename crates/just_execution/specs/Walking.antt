-- What a run asks, step by step, as it goes: it skips the pairs of a table, and counts its calls.
use Rattle.std.specs.Prelude.{◌==◌, ◌^◌, ◌+◌, ℕ, zero, suc, cond, List, [], ◌∷◌, ◌++◌, length, get_or}
use Rattle.just_errors.specs.declared.halt.Halt.TheVariants.{Exhausted}
use Rattle.just_run_layers.specs.Interactions.{Interaction, Return, Fail, and_then}
use Rattle.just_run_layers.specs.declared.held.Held.{Held}
use Rattle.just_tasks.specs.declared.task.Task.{Task}
use Rattle.just_tasks.specs.Pairs.{OnceTable, nothing_ran, put_in}

-- what asking for a task comes to: what is held for its block, and its priors
pub record Prepared : Type 0 where
  pub held : Held
  pub priors : List Task

-- What is asked of one task: before its priors, which gives these and what is held for the block; and in the block, by what is held, for its
-- body, and for its subsequents, which that gives.
pub record TaskInteractions : Type 0 where
  pub ask : Task → Interaction Prepared
  pub execute : Task → Held → Interaction (Unit {0})
  pub follow : Task → Held → Interaction (List Task)

-- where a run stands: the number of its table, the pairs that ran under it, and the counters of all tables
pub record State : Type 0 where
  pub number : ℕ
  pub table : OnceTable
  pub calls : List ℕ

-- the list with k more at a place
abbrev pub add_at : List ℕ → ℕ → ℕ → List ℕ
add_at [] i k = []
add_at (n ∷ ns) zero k = (n + k) ∷ ns
add_at (n ∷ ns) (suc i) k = n ∷ add_at ns i k

-- a call is counted under the table, unless the last number is reached
abbrev pub counted : State → State
counted s = record { number = s.number; table = s.table; calls = add_at s.calls s.number 1 }

abbrev pub count_steps : State → Interaction State
count_steps s = cond (get_or s.calls s.number 0 + 1 == 2 ^ 64) (Fail Exhausted) (Return (counted s))

-- tasks in turn, each where the one before it leaves the run
abbrev pub all_steps : (State → Task → Interaction State) → State → List Task → Interaction State
all_steps walk s [] = Return s
all_steps walk s (t ∷ ts) = and_then (walk s t) (λ now. all_steps walk now ts)

-- a new table is open
abbrev pub opened : List ℕ → State
opened calls = record { number = length calls; table = nothing_ran; calls = calls ++ 0 ∷ [] }

-- tasks under a table of their own, which is opened where there are any
abbrev pub fresh_steps : (State → Task → Interaction State) → List Task → List ℕ → Interaction (List ℕ)
fresh_steps walk [] calls = Return calls
fresh_steps walk (t ∷ ts) calls = and_then (all_steps walk (opened calls) (t ∷ ts)) (λ s. Return s.calls)

-- the body of a task that holds a value, and its subsequents under a table of their own
abbrev pub block_steps : TaskInteractions → (State → Task → Interaction State) → Task → Held → List ℕ → Interaction (List ℕ)
block_steps of_task walk t h calls = and_then (of_task.execute t h) (λ _. and_then (of_task.follow t h) (λ ts. fresh_steps walk ts calls))

-- the pair ran
abbrev pub ran : State → Task → List ℕ → State
ran s t calls = record { number = s.number; table = put_in s.table t.pair; calls = calls }

abbrev pub ran_steps : TaskInteractions → (State → Task → Interaction State) → Task → Held → State → Interaction State
ran_steps of_task walk t h s = and_then (block_steps of_task walk t h s.calls) (λ calls. Return (ran s t calls))

-- unless its pair ran: its questions, its priors, its block with what was held
abbrev pub visit_steps : TaskInteractions → (State → Task → Interaction State) → Task → State → Interaction State
visit_steps of_task walk t s =
    cond (s.table t.pair) (Return s) (and_then (of_task.ask t) (λ a. and_then (all_steps walk s a.priors) (ran_steps of_task walk t a.held)))

-- a task of a place below n
abbrev pub walk_steps : TaskInteractions → ℕ → State → Task → Interaction State
walk_steps of_task zero s t = Return s
walk_steps of_task (suc n) s t = and_then (count_steps s) (visit_steps of_task (walk_steps of_task n) t)
