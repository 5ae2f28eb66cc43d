use Rattle.std.proofs.Common.{◌≡◌, take}
use Rattle.just_tasks.specs.Leading.{places}
use Rattle.just_scopes.proofs.uses.places_of.Given as goal

abbrev pub invariant-loop-task : goal.invariant-loop-task
invariant-loop-task l = l.found.items ≡ places (take l.task-index l.tops)
