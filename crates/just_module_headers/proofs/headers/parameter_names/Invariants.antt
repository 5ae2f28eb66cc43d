use Rattle.std.proofs.Common.{◌≡◌, take, map}
use Rattle.just_names.specs.Name.{text_of_name}
use Rattle.just_ast_definitions.specs.declared.parameter.Parameter.{Parameter}
use Rattle.just_module_headers.proofs.headers.parameter_names.Given as goal

abbrev pub invariant-loop-parameter : goal.invariant-loop-parameter
invariant-loop-parameter l = l.names.items ≡ map (λ (p : Parameter). text_of_name p.name) (take l.parameter-index l.parameters)
