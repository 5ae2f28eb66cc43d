-- The expected run: the first occurrences of the unshared expansion.
use Rattle.std.specs.Prelude.{◌≡◌, ℕ, zero, suc, true, false, List, [], ◌∷◌, map, flat_map, Result, Ok, Err}
use Rattle.just_errors.specs.declared.halt.Halt.{Halt}
use Rattle.just_run_layers.specs.Host.{Answer}
use Rattle.just_run_layers.specs.Interactions.{Question, Interaction, Return, Fail, and_then, result_under}
use Rattle.just_execution.specs.Expansion.{Part, Prepare, Block, same_part, part_key, expansion}
use Rattle.just_execution.specs.Firsts.{firsts_by}
use Rattle.just_tasks.specs.declared.task.Task.{Task}
use Rattle.just_tasks.specs.Pairs.{same_pair, once_key, task}
use Rattle.just_execution.specs.Walking.{TaskInteractions, Prepared}

-- the tasks that steps come to, and none where they fail
abbrev pub tasks_in : Result (List Task) Halt → List Task
tasks_in (Ok ts) = ts
tasks_in (Err e) = []

-- the priors that asking comes to, and none where it fails
abbrev pub priors_in : Result Prepared Halt → List Task
priors_in (Ok a) = a.priors
priors_in (Err e) = []

-- the priors of a task under answers f
abbrev pub priors_by : TaskInteractions → (Question → Answer) → Task → List Task
priors_by of_task f t = priors_in (result_under f (of_task.ask t))

-- the subsequents of a task by what is held for it, and none where asking for it fails
abbrev pub subsequents_after : TaskInteractions → (Question → Answer) → Task → Result Prepared Halt → List Task
subsequents_after of_task f t (Ok a) = tasks_in (result_under f (of_task.follow t a.held))
subsequents_after of_task f t (Err e) = []

abbrev pub subsequents_by : TaskInteractions → (Question → Answer) → Task → List Task
subsequents_by of_task f t = subsequents_after of_task f t (result_under f (of_task.ask t))

-- a block: the body, the questions for the subsequents, and their run, by what is held
abbrev pub block_run : TaskInteractions → (List Task → Interaction (Unit {0})) → Task → Result Prepared Halt → Interaction (Unit {0})
block_run of_task run t (Ok a) = and_then (of_task.execute t a.held) (λ _. and_then (of_task.follow t a.held) run)
block_run of_task run t (Err e) = Fail e

-- the questions before the priors; the block, with what those of the same task come to under answers f
abbrev pub part_steps : TaskInteractions → (Question → Answer) → (List Task → Interaction (Unit {0})) → Part Task → Interaction (Unit {0})
part_steps of_task f run (Prepare t) = and_then (of_task.ask t) (λ _. Return tt)
part_steps of_task f run (Block t) = block_run of_task run t (result_under f (of_task.ask t))

-- one after another, up to the first that fails
abbrev pub in_turn : List (Interaction (Unit {0})) → Interaction (Unit {0})
in_turn [] = Return tt
in_turn (s ∷ ss) = and_then s (λ _. in_turn ss)

-- the first questions and the first block of each pair in the expansions of tasks, one after another
abbrev pub run_parts : TaskInteractions → (Question → Answer) → ℕ → List Task → List (Part Task)
run_parts of_task f n ts = firsts_by (same_part same_pair) (part_key once_key) (flat_map (expansion (priors_by of_task f) n) ts)

-- the run of a list, for tasks of places below n
abbrev pub run_steps : TaskInteractions → (Question → Answer) → ℕ → List Task → Interaction (Unit {0})
run_steps of_task f zero ts = Return tt
run_steps of_task f (suc n) ts = in_turn (map (part_steps of_task f (run_steps of_task f n)) (run_parts of_task f (suc n) ts))

-- it holds of each element
abbrev pub Each : {A : Type 0} → (A → Type 0) → List A → Type 0
Each P [] = Unit {0}
Each P (x ∷ xs) = P x × Each P xs

-- of each task that is asked, the priors are the same whether or not it runs as a dependency; what is held for it may differ
abbrev pub PartIgnoresFlag : TaskInteractions → (Question → Answer) → (List Task → Type 0) → Part Task → Type 0
PartIgnoresFlag of_task f run (Prepare t) = priors_by of_task f (task true t.pair) ≡ priors_by of_task f (task false t.pair)
PartIgnoresFlag of_task f run (Block t) = run (subsequents_by of_task f t)

abbrev pub PriorsIgnoreFlag : TaskInteractions → (Question → Answer) → ℕ → List Task → Type 0
PriorsIgnoreFlag of_task f zero ts = Unit {0}
PriorsIgnoreFlag of_task f (suc n) ts = Each (PartIgnoresFlag of_task f (PriorsIgnoreFlag of_task f n)) (run_parts of_task f (suc n) ts)
