use Rattle.std.proofs.Common.{◌≡◌, ◌++◌, reverse}
use Rattle.std.specs.List.{flat_map}
use Rattle.just_bench_evaluation.specs.Environments.{binding_changes}
use Rattle.just_bench_evaluation.proofs.environments.exports.Given as goal

abbrev pub invariant-loop-binding : goal.invariant-loop-binding
invariant-loop-binding l = l.found.items ++ flat_map (binding_changes l.all) l.binding-iterator ≡ flat_map (binding_changes l.all) (reverse l.scope.bindings)
