-- What the parameters of a recipe come to.
use Rattle.std.specs.Prelude.{false, List, [], ◌∷◌, ◌++◌, codes, Option, Some, None, if◌then◌else◌}
use Rattle.std.specs.Option.{option_and_then}
use Rattle.just_ast_definitions.specs.declared.parameter.Parameter.{Parameter}
use Rattle.just_ast_expressions.specs.declared.expression.Expression.{Expression}
use Rattle.just_ast_expressions.specs.declared.scope.Scope.{Scope}
use Rattle.just_names.specs.Texts.{Text}
use Rattle.just_run_layers.specs.declared.held.Held.{Held}
use Rattle.just_bench_values.specs.Values.{Outcome}

-- a scope that binds a parameter too
abbrev pub scope_with : Parameter → List Text → Scope → Scope
scope_with p value scope =
    record { bindings = scope.bindings ++ record { name = p.name; number = p.number; value = value; export = false; private = false } ∷ [] }

-- one more parameter with its value, whose texts stand among those by place too
abbrev pub with_parameter : Parameter → List Text → Held → Held
with_parameter p value bound =
    record { scope = scope_with p value bound.scope; positional = bound.positional ++ value; environment = bound.environment }

-- the value of a parameter that is given texts: these, or of a flag `true`
abbrev pub given_value : Parameter → List Text → List Text
given_value p group = if p.flag then codes "true" ∷ [] else group

-- before any parameter
abbrev pub none_bound_in : Scope → Held
none_bound_in scope = record { scope = scope; positional = []; environment = [] }

-- Parameters, where expressions come to these values in a scope.
module _ (value : Scope → Expression → Outcome) where
  abbrev pub default_value : Scope → Option Expression → Outcome
  default_value scope None = Some []
  default_value scope (Some e) = value scope e

  -- the value of a parameter by its group; where that is empty its default, or the empty list
  abbrev pub parameter_value : Scope → Parameter → List Text → Outcome
  parameter_value scope p [] = default_value scope p.default
  parameter_value scope p (text ∷ texts) = Some (given_value p (text ∷ texts))

  -- parameters one after another, each under those before it; there is a group for each
  abbrev pub bind_all : List Parameter → List (List Text) → Held → Option Held
  bind_all [] groups bound = Some bound
  bind_all (p ∷ ps) [] bound = None
  bind_all (p ∷ ps) (group ∷ groups) bound =
      option_and_then (λ found. bind_all ps groups (with_parameter p found bound)) (parameter_value bound.scope p group)
