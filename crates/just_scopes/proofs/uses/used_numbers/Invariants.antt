use Rattle.std.proofs.Common.{take}
use Rattle.std.specs.HashSet.{contains}
use Rattle.just_parts.specs.Needs.{same_number}
use Rattle.just_scopes.proofs.Using.{AreUsedAt}
use Rattle.just_scopes.proofs.uses.used_numbers.Given as goal

abbrev pub invariant-loop-index : goal.invariant-loop-index
invariant-loop-index l = AreUsedAt l.recipes (take l.index l.found.items) (contains same_number l.used)
