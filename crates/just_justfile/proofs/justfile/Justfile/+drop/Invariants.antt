use Rattle.std.proofs.Common.{◌+◌, ◌-◌, ◌<◌, length}
use Rattle.std.specs.List.{sum_by}
use Rattle.just_justfile.proofs.Counts.{count}
use Rattle.just_justfile.proofs.justfile.Justfile.+drop.Given as goal

abbrev pub decreases-drop : goal.decreases-drop
decreases-drop l = count l.self

abbrev pub invariant-loop-module : goal.invariant-loop-module
invariant-loop-module l = sum_by count l.inner.items + sum_by count l.pending.items < count l.fn.self

abbrev pub decreases-loop-module : goal.decreases-loop-module
decreases-loop-module l =
    let left = sum_by count l.inner.items + sum_by count l.pending.items in
    (left + left) - length l.pending.items
