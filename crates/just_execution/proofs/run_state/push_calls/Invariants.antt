use Rattle.std.proofs.Common.{◌≡◌, ◌++◌, length}
use Rattle.just_execution.specs.loops.Frames.{calls_of}
use Rattle.just_execution.proofs.run_state.push_calls.Given as goal

abbrev pub invariant-loop-task : goal.invariant-loop-task
invariant-loop-task l = l.frames.items ++ calls_of l.rest.items ≡ l.fn.frames.items ++ calls_of l.fn.tasks.items

abbrev pub decreases-loop-task : goal.decreases-loop-task
decreases-loop-task l = length l.rest.items
