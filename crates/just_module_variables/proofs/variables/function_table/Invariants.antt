use Rattle.std.proofs.Common.{◌≡◌, take}
use Rattle.just_module_contents.specs.Definitions.{functions_in}
use Rattle.just_module_contents.specs.Known.{functions_under}
use Rattle.just_module_variables.proofs.variables.function_table.Given as goal

abbrev pub invariant-loop-place : goal.invariant-loop-place
invariant-loop-place l = l.functions ≡ functions_under (take l.place (functions_in l.definitions))
