use Rattle.std.proofs.Common.{◌≡◌, ◌++◌, map, reverse}
use Rattle.just_ast_expressions.specs.declared.scope.Binding.{Binding}
use Rattle.just_names.specs.Name.{text_of_name}
use Rattle.just_bench_evaluation.proofs.variables.names_of.Given as goal

abbrev pub invariant-loop-binding : goal.invariant-loop-binding
invariant-loop-binding l = l.names ++ map (λ (b : Binding). text_of_name b.name) l.binding-iterator ≡ map (λ (b : Binding). text_of_name b.name) (reverse l.scope.bindings)
