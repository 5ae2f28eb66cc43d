use Rattle.std.proofs.Common.{◌≡◌, take}
use Rattle.std.specs.HashMap.{get}
use Rattle.just_names.specs.declared.number.Number.{Number}
use Rattle.just_parts.specs.Needs.{same_number}
use Rattle.just_module_variables.specs.Overrides.{last_of}
use Rattle.just_module_variables.proofs.overrides.by_number.Given as goal

abbrev pub invariant-loop-number : goal.invariant-loop-number
invariant-loop-number l = (n : Number) → get same_number l.found n ≡ last_of (take l.number-index l.overrides) n
