use Rattle.std.proofs.Common.{◌≡◌, map, take, length}
use Rattle.just_tasks.specs.Pairs.{AllBelow}
use Rattle.just_invoke.specs.Outcome.{top}
use Rattle.just_invocations.specs.Split.{invoked_of}
use Rattle.just_invoke.proofs.tops.name_tops.Given as goal

abbrev pub invariant-loop-invocation : goal.invariant-loop-invocation
invariant-loop-invocation l = record {
  named : l.tasks.items ≡ map (λ i. top l.recipes (invoked_of i)) (take l.invocation-index l.invocations);
  below : AllBelow (length l.recipes) l.tasks.items;
}
