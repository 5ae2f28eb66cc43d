-- What private functions say beside `Steps.antt`.
use Rattle.std.specs.Prelude.{List, [], ◌∷◌, ◌++◌, map}
use Rattle.just_ast_definitions.specs.declared.parameter.Parameter.{Parameter}
use Rattle.just_ast_expressions.specs.declared.expression.Expression.{Expression}
use Rattle.just_recipe_names.specs.Steps.{Event, Hides, Reads}

abbrev pub readings : List Expression → List Event
readings = map Reads

-- the default and the value of each parameter, and then the parameter
abbrev pub parameter_events : (Parameter → List Expression) → List Parameter → List Event
parameter_events has [] = []
parameter_events has (p ∷ ps) = readings (has p) ++ (Hides p ∷ parameter_events has ps)
