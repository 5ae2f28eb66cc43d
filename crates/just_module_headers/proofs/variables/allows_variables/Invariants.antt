use Rattle.std.proofs.Common.{◌≡◌, drop}
use Rattle.just_module_contents.specs.Definitions.{sets_in}
use Rattle.just_module_contents.specs.Settings.{allows_variables}
use Rattle.just_module_headers.proofs.variables.allows_variables.Given as goal

abbrev pub invariant-loop-place : goal.invariant-loop-place
invariant-loop-place l = allows_variables (sets_in l.definitions) ≡ allows_variables (drop l.place (sets_in l.definitions))
