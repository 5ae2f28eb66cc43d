use Rattle.std.proofs.Common.{◌≡◌, ◌+◌, ◌++◌, drop, length}
use Rattle.just_module_contents.specs.Definitions.{recipes_in}
use Rattle.just_module_recipes.specs.Making.{standing}
use Rattle.just_module_recipes.specs.loops.Making.{fallen}
use Rattle.just_module_recipes.proofs.links.split.Given as goal

abbrev pub invariant-loop-set : goal.invariant-loop-set
invariant-loop-set l = (l.place + length l.set-iterator.rest.items ≡ length (recipes_in l.kept))
    × (recipes_in l.standing ++ standing l.set-iterator.rest.items (drop l.place (recipes_in l.kept)) ≡ standing l.fn.sets.items (recipes_in l.kept))
    × (l.disabled.items ++ fallen l.set-iterator.rest.items (drop l.place (recipes_in l.kept)) ≡ fallen l.fn.sets.items (recipes_in l.kept))
