use Rattle.std.proofs.Common.{◌≡◌, ◌++◌, map}
use Rattle.std.specs.HashMap.{get}
use Rattle.std.specs.Str.{bytes_eq}
use Rattle.just_recipe_values.specs.loops.Judged.{informed_by}
use Rattle.just_recipe_values.proofs.parameters.informed_parameters.Given as goal

abbrev pub invariant-loop-parameter : goal.invariant-loop-parameter
invariant-loop-parameter l =
    let by = informed_by (get bytes_eq l.helps) (get bytes_eq l.patterns) in
    l.made.items ++ map by l.parameter-iterator.rest.items ≡ map by l.fn.parameters
