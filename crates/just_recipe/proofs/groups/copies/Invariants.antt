use Rattle.std.proofs.Common.{◌≡◌, take}
use Rattle.just_recipe.proofs.groups.copies.Given as goal

abbrev pub invariant-loop-argument : goal.invariant-loop-argument
invariant-loop-argument l = l.made.items ≡ take l.argument-index l.arguments
