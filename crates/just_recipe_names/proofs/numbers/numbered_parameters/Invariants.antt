use Rattle.std.proofs.Common.{◌≡◌, ◌++◌, ℕ, List, [], drop, take}
use Rattle.std.specs.HashMap.{get}
use Rattle.std.specs.Str.{bytes_eq}
use Rattle.just_recipe_names.specs.Numbered.{number_under, numbered_parameters, parameter_number}
use Rattle.just_recipe_names.proofs.numbers.numbered_parameters.Given as goal

abbrev pub invariant-loop-parameter : goal.invariant-loop-parameter
invariant-loop-parameter g l =
    let again = numbered_parameters (number_under (get bytes_eq l.bindings) (g.S.Syntax.answers l.syntax)) in
    let before = take l.parameter-index l.parameters in
    ((name : List ℕ) → get bytes_eq l.seen name ≡ parameter_number before name)
    × (again [] l.parameters ≡ l.made.items ++ again before (drop l.parameter-index l.parameters))
