use Rattle.std.proofs.Common.{◌≡◌, ◌++◌, reverse}
use Rattle.just_data.proofs.chain.Chain.to_sequence.Given as goal

abbrev pub invariant-loop-item : goal.invariant-loop-item
invariant-loop-item g l = l.self ≡ reverse (l.items.items ++ l.item-iterator)
