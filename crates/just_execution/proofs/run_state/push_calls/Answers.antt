use Rattle.std.proofs.Common.{◌≡◌, [], ap, sym, ◌∙◌, rules, ◌++◌}
use Rattle.std.proofs.lemmas.List.{append-nil}
use Rattle.just_execution.specs.loops.Frames.{calls_of}
use Rattle.just_execution.proofs.RunStates.{one-called}
use Rattle.just_execution.proofs.run_state.push_calls.Goals as goal

pub loop-task-preserved : goal.loop-task-preserved
loop-task-preserved c = one-called _ _ _ _ _ _ c.in-Some.ensures.items (search rules) c.loop-task.invariant

pub returns : goal.returns
returns c =
    let none : c.loop-task.rest.items ≡ [] = search rules in
    sym (append-nil c.loop-task.frames.items) ∙ ap (λ ts. c.loop-task.frames.items ++ calls_of ts) (sym none) ∙ c.loop-task.invariant
