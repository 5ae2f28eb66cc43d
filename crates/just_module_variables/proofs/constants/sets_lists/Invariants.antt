use Rattle.std.proofs.Common.{◌≡◌, drop}
use Rattle.just_module_contents.specs.Constants.{sets_lists}
use Rattle.just_module_contents.specs.Definitions.{sets_in}
use Rattle.just_module_variables.proofs.constants.sets_lists.Given as goal

abbrev pub invariant-loop-place : goal.invariant-loop-place
invariant-loop-place l = sets_lists (sets_in l.definitions) ≡ sets_lists (drop l.place (sets_in l.definitions))
