use Rattle.std.proofs.Common.{◌≡◌, take}
use Rattle.just_module_contents.specs.Contents.{variable_names}
use Rattle.just_module_contents.specs.Definitions.{variables_in}
use Rattle.just_module_headers.proofs.variables.variable_names.Given as goal

abbrev pub invariant-loop-place : goal.invariant-loop-place
invariant-loop-place l = l.names.items ≡ variable_names (take l.place (variables_in l.definitions))
