use Rattle.std.proofs.Common.{◌≡◌, length}
use Rattle.just_module_recipes.proofs.merge.no_sets.Given as goal

abbrev pub invariant-loop : goal.invariant-loop
invariant-loop l = length l.sets.items ≡ l.counter
