-- What has no numbers has none to lose.
use Rattle.std.proofs.Common.{◌≡◌, List, [], ◌∷◌, map, refl, ap}
use Rattle.just_ast_definitions.specs.declared.function_definition.FunctionParameter.{FunctionParameter}
use Rattle.just_parts.specs.Bare.{bare_function_parameter}

pub bare_parameters : (ps : List FunctionParameter) → map bare_function_parameter (map bare_function_parameter ps) ≡ map bare_function_parameter ps
bare_parameters [] = refl
bare_parameters (p ∷ ps) = ap (λ (qs : List FunctionParameter). bare_function_parameter p ∷ qs) (bare_parameters ps)
