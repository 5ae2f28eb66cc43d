use Rattle.std.proofs.Common.{◌≡◌, take}
use Rattle.just_module_contents.specs.Contents.{function_names, signatures}
use Rattle.just_module_contents.specs.Definitions.{functions_in}
use Rattle.just_module_contents.proofs.definitions.Definitions.function_names.Given as goal

abbrev pub invariant-loop-place : goal.invariant-loop-place
invariant-loop-place l = l.names.items ≡ function_names (signatures (take l.place (functions_in l.self)))
