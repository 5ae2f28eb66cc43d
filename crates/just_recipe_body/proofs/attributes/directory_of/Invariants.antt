use Rattle.std.proofs.Common.{◌≡◌, drop}
use Rattle.just_recipe_body.specs.Attributes.{directory_of}
use Rattle.just_recipe_body.proofs.attributes.directory_of.Given as goal

abbrev pub invariant-loop-named : goal.invariant-loop-named
invariant-loop-named l = directory_of l.attributes ≡ directory_of (drop l.named-index l.attributes)
