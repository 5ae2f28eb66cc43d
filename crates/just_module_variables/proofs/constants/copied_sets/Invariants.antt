use Rattle.std.proofs.Common.{◌≡◌, take}
use Rattle.just_module_contents.specs.Definitions.{sets_in}
use Rattle.just_module_variables.proofs.constants.copied_sets.Given as goal

abbrev pub invariant-loop-place : goal.invariant-loop-place
invariant-loop-place l = l.sets.items ≡ take l.place (sets_in l.definitions)
