use Rattle.std.proofs.Common.{◌≡◌, ℕ, List, take}
use Rattle.std.specs.HashSet.{contains}
use Rattle.std.specs.Str.{bytes_eq}
use Rattle.just_parts.specs.Known.{hides}
use Rattle.just_name_resolution.proofs.name_checks.hidden_names.Given as goal

abbrev pub invariant-loop-parameter : goal.invariant-loop-parameter
invariant-loop-parameter l = (name : List ℕ) → contains bytes_eq l.names name ≡ hides (take l.parameter-index l.parameters) name
