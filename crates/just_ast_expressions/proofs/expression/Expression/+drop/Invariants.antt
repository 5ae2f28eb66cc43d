use Rattle.std.proofs.Common.{◌+◌, ◌-◌, ◌<◌, length}
use Rattle.std.specs.List.{sum_by}
use Rattle.just_ast_expressions.specs.loops.Taken.{untaken}
use Rattle.just_ast_expressions.proofs.Sizes.{size}
use Rattle.just_ast_expressions.proofs.expression.Expression.+drop.Given as goal

abbrev pub decreases-drop : goal.decreases-drop
decreases-drop l = size l.self

abbrev pub invariant-loop-others : goal.invariant-loop-others
invariant-loop-others l = sum_by size (untaken l.parts) + sum_by size l.pending.items < size l.fn.self

abbrev pub decreases-loop-others : goal.decreases-loop-others
decreases-loop-others l =
    let left = sum_by size (untaken l.parts) + sum_by size l.pending.items in
    (left + left) - length l.pending.items
