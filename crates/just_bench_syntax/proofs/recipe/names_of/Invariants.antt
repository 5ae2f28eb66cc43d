use Rattle.std.proofs.Common.{◌≡◌, take}
use Rattle.just_bench_syntax.specs.Recipe.{parameter_names_of}
use Rattle.just_bench_syntax.proofs.recipe.names_of.Given as goal

abbrev pub invariant-loop-parameter : goal.invariant-loop-parameter
invariant-loop-parameter l = l.names.items ≡ parameter_names_of (take l.parameter-index l.parameters)
