use Rattle.just_module_contents.specs.loops.Defaults.{IsMarkedPlace}
use Rattle.just_module_contents.specs.Definitions.{recipes_in}
use Rattle.just_module_aliases.proofs.default_mark.marked_place.Given as goal

abbrev pub invariant-loop-place : goal.invariant-loop-place
invariant-loop-place l = IsMarkedPlace (recipes_in l.definitions) l.place l.marked
