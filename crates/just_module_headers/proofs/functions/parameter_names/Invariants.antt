use Rattle.std.proofs.Common.{◌≡◌, map, take}
use Rattle.just_ast_definitions.specs.declared.function_definition.FunctionParameter.{FunctionParameter}
use Rattle.just_module_headers.proofs.functions.parameter_names.Given as goal

abbrev pub invariant-loop-parameter : goal.invariant-loop-parameter
invariant-loop-parameter l = l.names.items ≡ map (λ (p : FunctionParameter). p.name) (take l.parameter-index l.function.parameters)
