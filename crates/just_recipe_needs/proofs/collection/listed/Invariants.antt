use Rattle.std.proofs.Common.{◌≡◌, ◌++◌}
use Rattle.just_recipe_needs.proofs.collection.listed.Given as goal

abbrev pub invariant-loop-number : goal.invariant-loop-number
invariant-loop-number l = l.found ++ l.number-iterator ≡ l.fn.numbers.keys
