use Rattle.std.proofs.Common.{◌≡◌, drop}
use Rattle.just_recipe_body.specs.Attributes.{first_said}
use Rattle.just_recipe_body.specs.Confirmation.{confirmation_in}
use Rattle.just_recipe_body.proofs.confirmation.confirmation_of.Given as goal

abbrev pub invariant-loop-named : goal.invariant-loop-named
invariant-loop-named l = first_said confirmation_in l.attributes ≡ first_said confirmation_in (drop l.named-index l.attributes)
