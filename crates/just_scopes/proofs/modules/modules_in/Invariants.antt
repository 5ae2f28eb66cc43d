use Rattle.std.proofs.Common.{map}
use Rattle.just_scopes.specs.loops.Preorder.{placed}
use Rattle.just_scopes.proofs.Preordering.{Walks, count_all}
use Rattle.just_scopes.proofs.modules.modules_in.Given as goal

abbrev pub invariant-loop-next : goal.invariant-loop-next
invariant-loop-next l = Walks l.above l.root (map placed l.modules.items) (map placed l.left.items)

abbrev pub decreases-loop-next : goal.decreases-loop-next
decreases-loop-next l = count_all (map placed l.left.items)
