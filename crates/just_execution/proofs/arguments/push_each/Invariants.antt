use Rattle.std.proofs.Common.{◌≡◌, ◌++◌, map, take}
use Rattle.just_execution.specs.Arguments.{task_at, with_text}
use Rattle.just_execution.proofs.arguments.push_each.Given as goal

abbrev pub invariant-loop-text : goal.invariant-loop-text
invariant-loop-text l = l.tasks.items ≡ l.fn.tasks.items ++ map (task_at l.recipe) (map (with_text l.groups l.star) (take l.text-index l.texts))
