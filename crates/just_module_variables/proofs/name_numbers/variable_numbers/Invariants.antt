use Rattle.std.proofs.Common.{◌≡◌, ℕ, List, map}
use Rattle.std.specs.HashMap.{get}
use Rattle.std.specs.Str.{bytes_eq}
use Rattle.just_module_variables.specs.Numbered.{name_of_assignment}
use Rattle.just_module_variables.proofs.Numbers.{last_number}
use Rattle.just_module_variables.proofs.name_numbers.variable_numbers.Given as goal

abbrev pub invariant-loop-assignment : goal.invariant-loop-assignment
invariant-loop-assignment l = (name : List ℕ) → get bytes_eq l.numbers name ≡ last_number name_of_assignment (λ a. a.number) (map (λ a. a.now) l.yielded) name
