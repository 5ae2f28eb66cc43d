-- What a walk over a recipe comes to, one after another.
use Rattle.std.specs.Prelude.{List, [], ◌∷◌, ◌++◌, map}
use Rattle.just_ast_definitions.specs.declared.parameter.Parameter.{Parameter}
use Rattle.just_ast_expressions.specs.declared.expression.Expression.{Expression}
use Rattle.just_parts.specs.Scopes.{Scoped, is_parameter, scoped}
use Rattle.just_recipe_names.specs.declared.steps.Step.{Step}
use Rattle.just_recipe_names.specs.declared.steps.Step.TheVariants as step

-- An expression that is read, or a parameter, whose name is hidden in what comes after it.
pub data Event : Type 0 where
  Reads : Expression → Event
  Hides : Parameter → Event

abbrev pub event_of : Step → Event
event_of (step.Reads e) = Reads e.now
event_of (step.Hides p) = Hides p.now

abbrev pub events : List Step → List Event
events = map event_of

-- the expressions that are read, each under the parameters before it, where some come before all of them
abbrev pub scopes_from : List Parameter → List Event → List Scoped
scopes_from before [] = []
scopes_from before (Reads e ∷ rest) = scoped (is_parameter before) e ∷ scopes_from before rest
scopes_from before (Hides p ∷ rest) = scopes_from (before ++ p ∷ []) rest
