use Rattle.std.proofs.Common.{◌≡◌, ◌||◌, take}
use Rattle.std.specs.HashSet.{contains}
use Rattle.std.specs.List.{list_any}
use Rattle.just_names.specs.declared.number.Number.{Number}
use Rattle.just_parts.specs.Needs.{same_number}
use Rattle.just_scopes.proofs.uses.add_numbers.Given as goal

abbrev pub invariant-loop-number : goal.invariant-loop-number
invariant-loop-number l = (n : Number) → contains same_number l.set n ≡ (contains same_number l.initial.set n || list_any (same_number n) (take l.number-index l.numbers))
