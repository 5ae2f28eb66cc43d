use Rattle.std.proofs.Common.{◌≡◌, ◌≢◌, ◌++◌, ◌∷◌, [], List, length, arith, rules}
use Rattle.just_execution.specs.declared.run_state.RunState.{RunState}
use Rattle.just_execution.specs.declared.frame.Frame.TheVariants.{Back}
use Rattle.just_tasks.specs.declared.task.Task.{Task}
use Rattle.just_execution.specs.loops.Frames.{state_of}
use Rattle.just_execution.specs.Walking.{opened}
use Rattle.just_execution.proofs.RunStates.{is-opened, not-opened, pushed-calls}
use Rattle.just_tasks.proofs.Places.{OnOk-map}
use Rattle.just_execution.proofs.run_state.RunState.open.Goals as goal

pub returns : goal.returns
returns c =
    let old : RunState = c.args.self.now in
    let tasks : List Task = c.args.tasks.items in
    let new : RunState = record { frames = c.push_calls.new.frames; current = c.replace-outer.new.dest; calls = c.push.new.self } in
    let some : tasks ≢ [] = search rules in
    let state : state_of new ≡ opened old.calls.items = search rules in
    let pushed : c.push-2.new.self.items ≡ old.frames.items ++ Back old.current ∷ [] = search rules in
    OnOk-map c.push_calls.result (λ h. is-opened old new tasks (pushed-calls _ old.frames.items (Back old.current) tasks _ pushed h) state some (omega (arith, c.args.tasks.small))) c.push_calls.ensures

pub returns-then-is_empty : goal.returns-then-is_empty
returns-then-is_empty c = let none : length c.args.tasks.items ≡ 0 = search rules in not-opened c.args.self.now c.args.tasks.items none
