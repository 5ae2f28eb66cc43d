use Rattle.std.proofs.Common.{◌≡◌, ℕ, List, take}
use Rattle.std.specs.HashMap.{get}
use Rattle.std.specs.Str.{bytes_eq}
use Rattle.just_recipe_values.specs.Valued.{last_pattern}
use Rattle.just_recipe_values.proofs.parameters.last_patterns.Given as goal

abbrev pub invariant-loop-named : goal.invariant-loop-named
invariant-loop-named l = (name : List ℕ) → get bytes_eq l.patterns name ≡ last_pattern (take l.named-index l.attributes) name
