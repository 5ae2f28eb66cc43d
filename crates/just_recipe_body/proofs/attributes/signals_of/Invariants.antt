use Rattle.std.proofs.Common.{◌≡◌, drop}
use Rattle.just_recipe_body.specs.Attributes.{signals_of}
use Rattle.just_recipe_body.proofs.attributes.signals_of.Given as goal

abbrev pub invariant-loop-named : goal.invariant-loop-named
invariant-loop-named l = signals_of l.attributes ≡ signals_of (drop l.named-index l.attributes)
