-- What is left to do of an evaluation, and what it comes to.
use Rattle.std.specs.Prelude.{◌≡◌, ℕ, zero, suc, ◌+◌, ◌*◌, ◌<◌, ◌⊎◌, true, false, List, [], ◌∷◌, ◌++◌, map, Option, Some, Result, Ok, Err}
use Rattle.std.specs.Borrow.{Bor}
use Rattle.std.specs.List.{sum_by}
use Rattle.std.specs.Option.{option_and_then, option_map}
use Rattle.just_names.specs.Texts.{Text}
use Rattle.just_names.specs.Name.{text_of_name}
use Rattle.just_names.specs.Token.{Place}
use Rattle.just_names.specs.declared.name.Name.{Name}
use Rattle.just_errors.specs.declared.error.Error.{Error}
use Rattle.just_ast_definitions.specs.declared.function_definition.FunctionDefinition.{FunctionDefinition}
use Rattle.just_ast_expressions.specs.declared.expression.Expression.{Expression}
use Rattle.just_ast_expressions.specs.Parts.{parts}
use Rattle.just_ast_expressions.proofs.Sizes.{size}
use Rattle.just_parts.specs.Evaluator.{FaultsAt, Functions, Values, functions_by_name}
use Rattle.just_parts.specs.Told.{IsPlaceIn, IsPlaceInOne, IsToldIn}
use Rattle.just_bench_values.specs.Lookup.{constant_values, functions_in, local_values}
use Rattle.just_bench_values.specs.loops.Lookup.{IsPlaceOfCall}
use Rattle.just_bench_values.specs.Sink.{sent, set_apart, spaced, texts_of}
use Rattle.just_bench_values.specs.Values.{Outcome, all_of, call_outcome, hiding, none_called, one_after_another, value_with}
use Rattle.just_bench_values.specs.declared.sink.Sink.{Sink}
use Rattle.just_bench_values.specs.declared.sink.Sink.TheVariants as sink
use Rattle.just_bench_values.specs.declared.tasks.Among.{Among}
use Rattle.just_bench_values.specs.declared.tasks.Frame.{Frame}
use Rattle.just_bench_values.specs.declared.tasks.State.{State}
use Rattle.just_bench_values.specs.declared.tasks.Task.{Task}
use Rattle.just_bench_values.specs.declared.tasks.Task.TheVariants as task

-- a call where so many more may stand inside each other
abbrev pub call_with : ℕ → Functions → Values → Text → List (List Text) → Outcome
call_with zero functions constants = none_called
call_with (suc calls) functions constants = call_outcome (value_with calls functions constants) functions

-- a state with one more task
abbrev pub with_task : Task → State → State
with_task t s = record s { tasks = t ∷ s.tasks }

abbrev pub with_call : Bor Name → Bor (List Expression) → List (List Text) → State → State
with_call name rest values s = with_task (task.Call (record { name = name; rest = rest; values = values })) s

-- a state where a sum begins
abbrev pub sum_opened_at : State → Sink → State
sum_opened_at s (sink.Texts texts) = record { tasks = task.Close (sink.Texts texts) ∷ s.tasks; frame = s.frame; sink = sink.Joined [] false }
sum_opened_at s (sink.Joined written apart) = record { tasks = s.tasks; frame = s.frame; sink = sink.Joined (spaced apart written) false }

abbrev pub sum_opened : State → State
sum_opened s = sum_opened_at s s.sink

abbrev pub with_sum : Bor Expression → Bor Expression → State → State
with_sum lhs rhs s = with_task (task.Value lhs) (with_task (task.Right rhs) (sum_opened s))

-- how many expressions there are in the bodies of functions
abbrev pub body_size : (Text × FunctionDefinition) → ℕ
body_size entry = size entry.1.body

abbrev pub bodies_size : List (Text × FunctionDefinition) → ℕ
bodies_size = sum_by body_size

-- what a call may take, where so many more may stand inside it
unfoldable pub room : ℕ → ℕ → ℕ
room bodies zero = 0
room bodies (suc calls) = bodies * (room bodies calls + 4)

-- what the evaluation of some expressions may take
abbrev pub cost : List (Text × FunctionDefinition) → ℕ → List Expression → ℕ
cost functions calls es = sum_by size es * (room (bodies_size functions) calls + 4) + room (bodies_size functions) calls

module _ (a : Among) where
  abbrev functions : List (Text × FunctionDefinition)
  functions = functions_in a.functions

  -- the value of an expression, of several, of a call, and of a variable
  abbrev pub frame_value : Frame → Expression → Outcome
  frame_value f = value_with f.calls (functions_by_name functions) (constant_values a.constants) (local_values f.locals)

  abbrev pub values_in : Frame → List Expression → Option (List (List Text))
  values_in f es = all_of (map (frame_value f) es)

  abbrev pub call_in : Frame → Text → List (List Text) → Outcome
  call_in f = call_with f.calls (functions_by_name functions) (constant_values a.constants)

  abbrev pub variable_in : Frame → Values
  variable_in f = hiding (local_values f.locals) (constant_values a.constants)

  -- the value of a call whose first arguments have these values
  abbrev pub call_on : Frame → Text → List (List Text) → List Expression → Outcome
  call_on f name values rest = option_and_then (λ more. call_in f name (values ++ more)) (values_in f rest)

  -- the sink after these tasks, where each value is there
  abbrev pub ran_tasks : List Task → Frame → Sink → Option Sink
  ran_tasks [] f s = Some s
  ran_tasks (task.Value e ∷ ts) f s = option_and_then (λ value. ran_tasks ts f (sent s value)) (frame_value f e.now)
  ran_tasks (task.Right e ∷ ts) f s = option_and_then (λ value. ran_tasks ts f (set_apart true (sent (set_apart false s) value))) (frame_value f e.now)
  ran_tasks (task.End ∷ ts) f s = ran_tasks ts f (set_apart true s)
  ran_tasks (task.Close outer ∷ ts) f s = ran_tasks ts f (sent outer (texts_of s))
  ran_tasks (task.Elements es ∷ ts) f s = option_and_then (λ values. ran_tasks ts f (sent s (one_after_another values))) (values_in f es.rest.now)
  ran_tasks (task.Call p ∷ ts) f s = option_and_then (λ value. ran_tasks ts f (sent s value)) (call_on f (text_of_name p.name.now) p.values p.rest.now)
  ran_tasks (task.Keep p outer ∷ ts) f s = option_and_then (λ value. ran_tasks ts f (sent outer value)) (call_on f (text_of_name p.name.now) (p.values ++ texts_of s ∷ []) p.rest.now)
  ran_tasks (task.Leave outside ∷ ts) f s = ran_tasks ts outside s

  -- what tasks may take
  abbrev pub left : List Task → ℕ → ℕ
  left [] calls = 0
  left (task.Value e ∷ ts) calls = cost functions calls (parts e.now) + 2 + left ts calls
  left (task.Right e ∷ ts) calls = cost functions calls (parts e.now) + 4 + left ts calls
  left (task.End ∷ ts) calls = 1 + left ts calls
  left (task.Close outer ∷ ts) calls = 1 + left ts calls
  left (task.Elements es ∷ ts) calls = cost functions calls es.rest.now + 1 + left ts calls
  left (task.Call p ∷ ts) calls = cost functions calls p.rest.now + left ts calls
  left (task.Keep p outer ∷ ts) calls = cost functions calls p.rest.now + 1 + left ts calls
  left (task.Leave outside ∷ ts) calls = 1 + left ts outside.calls

  -- a place of what a task evaluates, and of one of several
  abbrev pub IsPlaceOfTask : Task → Place → Type 0
  IsPlaceOfTask (task.Value e) place = IsPlaceIn functions e.now place
  IsPlaceOfTask (task.Right e) place = IsPlaceIn functions e.now place
  IsPlaceOfTask task.End place = ⊥
  IsPlaceOfTask (task.Close outer) place = ⊥
  IsPlaceOfTask (task.Elements es) place = IsPlaceInOne functions es.rest.now place
  IsPlaceOfTask (task.Call p) place = IsPlaceOfCall functions p.name.now place ⊎ IsPlaceInOne functions p.rest.now place
  IsPlaceOfTask (task.Keep p outer) place = IsPlaceOfCall functions p.name.now place ⊎ IsPlaceInOne functions p.rest.now place
  IsPlaceOfTask (task.Leave outside) place = ⊥

  abbrev pub IsPlaceOfOne : List Task → Place → Type 0
  IsPlaceOfOne [] place = ⊥
  IsPlaceOfOne (t ∷ ts) place = IsPlaceOfTask t place ⊎ IsPlaceOfOne ts place

  abbrev pub outcome_of : State → Option Sink
  outcome_of s = ran_tasks s.tasks s.frame s.sink

  -- A state leads to another: both come to the same, less is left, and no new places are there.
  pub record Goes (old new : State) : Type 0 where
    pub same : outcome_of new ≡ outcome_of old
    pub less : left new.tasks new.frame.calls < left old.tasks old.frame.calls
    pub within : (place : Place) → IsPlaceOfOne new.tasks place → IsPlaceOfOne old.tasks place

  -- a step leads to another state, or tells where a state comes to nothing; want of memory aside
  abbrev pub Advances : {A : Type 0} → State → State → Result A Error → Type 0
  Advances old new (Ok value) = Goes old new
  Advances old new (Err e) = FaultsAt (outcome_of old) e × IsToldIn (IsPlaceOfOne old.tasks) e

-- a value goes to a sink, or a fault is told at one of these places where there is none; want of memory aside
abbrev pub Sends : {A : Type 0} → Outcome → (Place → Type 0) → Sink → Sink → Result A Error → Type 0
Sends outcome places old new (Ok value) = option_map (sent old) outcome ≡ Some new
Sends outcome places old new (Err e) = FaultsAt outcome e × IsToldIn places e
