use Rattle.std.proofs.Common.{◌≢◌, [], Option, length, refl, rules}
use Rattle.just_run_layers.specs.Host.{Answer}
use Rattle.just_run_layers.specs.Interactions.{Question, both}
use Rattle.just_run_layers.proofs.InteractionLemmas.{took-out}
use Rattle.just_execution.specs.loops.Frames.{state_of}
use Rattle.just_execution.specs.loops.Homes.{IsCallable, IsServed}
use Rattle.just_execution.specs.TaskInteractions.{interactions_of}
use Rattle.just_execution.specs.Walking.{fresh_steps, walk_steps}
use Rattle.just_tasks.specs.Scene.{running, scene_in}
use Rattle.just_execution.proofs.RunStates.{begun-sound, first-calls}
use Rattle.just_execution.proofs.Goings.{ended-calls, whole-stop, whole-took}
use Rattle.just_execution.proofs.Homes.{each-callable}
use Rattle.just_execution.proofs.TaskInteractions.{leaves-lower}
use Rattle.just_tasks.proofs.Lone.{running-below, running-ordered}
use Rattle.just_execution.proofs.run.start.Goals as goal

pub returns-in_err-state-clause-took : goal.returns-in_err-state-clause-took
returns-in_err-state-clause-took g c =
    let p : Question → Option Answer = both (g.E.Evaluation.promised c.args.evaluation.now) (g.H.Host.promised c.args.host.now) in
    let rs = c.args.recipes.now in
    ended-calls p _ _ _ _ c.from_residual.result (search rules) (took-out p (fresh_steps (walk_steps (interactions_of (scene_in (g.S.Syntax.answers c.args.scopes.now.syntax.now) c.args.scopes.now rs)) (length (running c.args.scopes.now.no_dependencies rs))) c.args.tasks.items []) _ _ refl)

pub returns-in_err-push_calls-clause-took : goal.returns-in_err-push_calls-clause-took
returns-in_err-push_calls-clause-took g c =
    let p : Question → Option Answer = both (g.E.Evaluation.promised c.args.evaluation.now) (g.H.Host.promised c.args.host.now) in
    let rs = c.args.recipes.now in
    ended-calls p _ _ _ _ c.from_residual-in_err-push_calls.result (search rules) (took-out p (fresh_steps (walk_steps (interactions_of (scene_in (g.S.Syntax.answers c.args.scopes.now.syntax.now) c.args.scopes.now rs)) (length (running c.args.scopes.now.no_dependencies rs))) c.args.tasks.items []) _ _ refl)

pub finish-requires-clause-sound : goal.finish-requires-clause-sound
finish-requires-clause-sound g c =
    begun-sound (IsCallable (g.S.Syntax.answers c.args.scopes.now.syntax.now) c.args.scopes.now.modules c.args.recipes.now) (IsServed (g.S.Syntax.answers c.args.scopes.now.syntax.now) c.args.scopes.now.modules c.args.recipes.now) (record { frames = c.push_calls.new.frames; current = c.in_ok-state.state.current; calls = c.in_ok-state.state.calls }) c.args.tasks.items
    (first-calls _ _ c.args.tasks.items c.in_ok-state.ensures.frames c.in_ok-push_calls.ensures) c.in_ok-state.ensures.state (each-callable (g.S.Syntax.answers c.args.scopes.now.syntax.now) c.args.scopes.now.modules c.args.recipes.now c.args.tasks.items c.requires.below c.requires.home)

pub returns-in_err-finish-clause-took : goal.returns-in_err-finish-clause-took
returns-in_err-finish-clause-took g c =
    let p : Question → Option Answer = both (g.E.Evaluation.promised c.args.evaluation.now) (g.H.Host.promised c.args.host.now) in
    let rs = c.args.recipes.now in
    let some : c.args.tasks.items ≢ [] = search rules in
    ended-calls p _ _ _ c.in_err-finish.field-0.0 c.from_residual-in_err-finish.result (search rules)
    (whole-stop (interactions_of (scene_in (g.S.Syntax.answers c.args.scopes.now.syntax.now) c.args.scopes.now c.args.recipes.now)) (leaves-lower (scene_in (g.S.Syntax.answers c.args.scopes.now.syntax.now) c.args.scopes.now c.args.recipes.now) (running-ordered c.args.scopes.now.no_dependencies c.args.recipes.now c.requires.ordered)) (length (running c.args.scopes.now.no_dependencies rs)) c.args.tasks.items some (running-below c.args.scopes.now.no_dependencies rs c.args.tasks.items c.requires.below) c.push_calls.new.frames.items (state_of c.in_ok-state.state)
    (first-calls _ _ c.args.tasks.items c.in_ok-state.ensures.frames c.in_ok-push_calls.ensures) c.in_ok-state.ensures.state p _ _ c.in_err-finish.field-0.0 c.in_err-finish.ensures.took)

pub returns-clause-took : goal.returns-clause-took
returns-clause-took g c =
    let p : Question → Option Answer = both (g.E.Evaluation.promised c.args.evaluation.now) (g.H.Host.promised c.args.host.now) in
    let rs = c.args.recipes.now in
    let some : c.args.tasks.items ≢ [] = search rules in
    whole-took (interactions_of (scene_in (g.S.Syntax.answers c.args.scopes.now.syntax.now) c.args.scopes.now c.args.recipes.now)) (leaves-lower (scene_in (g.S.Syntax.answers c.args.scopes.now.syntax.now) c.args.scopes.now c.args.recipes.now) (running-ordered c.args.scopes.now.no_dependencies c.args.recipes.now c.requires.ordered)) (length (running c.args.scopes.now.no_dependencies rs)) c.args.tasks.items some (running-below c.args.scopes.now.no_dependencies rs c.args.tasks.items c.requires.below) c.push_calls.new.frames.items (state_of c.in_ok-state.state)
    (first-calls _ _ c.args.tasks.items c.in_ok-state.ensures.frames c.in_ok-push_calls.ensures) c.in_ok-state.ensures.state p _ _ (state_of c.finish.new.run) c.in_ok-finish.ensures.took
