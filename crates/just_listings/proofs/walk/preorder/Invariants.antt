use Rattle.just_listings.proofs.Walks.{Walks, count_all}
use Rattle.just_listings.proofs.walk.preorder.Given as goal

abbrev pub invariant-loop-next : goal.invariant-loop-next
invariant-loop-next l = Walks l.choice l.root l.listed.items l.left.items

abbrev pub decreases-loop-next : goal.decreases-loop-next
decreases-loop-next l = count_all l.left.items
