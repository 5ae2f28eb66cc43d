use Rattle.std.proofs.Common.{◌≡◌, ◌++◌, take}
use Rattle.just_scopes.proofs.open_module.laid_over.Given as goal

abbrev pub invariant-loop-pair : goal.invariant-loop-pair
invariant-loop-pair l = l.all ≡ l.before ++ take l.pair-index l.pairs
