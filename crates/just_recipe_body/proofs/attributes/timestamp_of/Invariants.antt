use Rattle.std.proofs.Common.{◌≡◌, drop}
use Rattle.just_recipe_body.specs.Attributes.{timestamp_of}
use Rattle.just_recipe_body.proofs.attributes.timestamp_of.Given as goal

abbrev pub invariant-loop-named : goal.invariant-loop-named
invariant-loop-named l = timestamp_of l.attributes ≡ timestamp_of (drop l.named-index l.attributes)
