use Rattle.std.proofs.Common.{◌≡◌, ℕ, List, take}
use Rattle.std.specs.HashMap.{get}
use Rattle.std.specs.Str.{bytes_eq}
use Rattle.just_module_variables.specs.Numbered.{function_parameter_number}
use Rattle.just_module_variables.proofs.name_numbers.parameter_numbers.Given as goal

abbrev pub invariant-loop-parameter : goal.invariant-loop-parameter
invariant-loop-parameter l = (name : List ℕ) → get bytes_eq l.numbers name ≡ function_parameter_number (take l.parameter-index l.parameters) name
