-- What is covered by a scope that binds each variable of a module.
use Rattle.std.proofs.Common.{◌≡◌, Bool, true, List, [], ◌∷◌, Option, Some, None}
use Rattle.std.specs.List.{All}
use Rattle.std.specs.Prelude.{IfSome}
use Rattle.just_ast_definitions.specs.declared.assignment.Assignment.{Assignment}
use Rattle.just_ast_definitions.specs.declared.parameter.Parameter.{Parameter}
use Rattle.just_ast_expressions.specs.declared.expression.Expression.{Expression}
use Rattle.just_ast_expressions.specs.declared.scope.Scope.{Scope}
use Rattle.just_names.specs.Texts.{Text}
use Rattle.just_parts.specs.Known.{Known, none_hidden}
use Rattle.just_run_layers.specs.Covering.{AreParametersCovered, BindsRead, IsCovered, binds, hidden_after}
use Rattle.just_table.specs.Entries.{find}

module _ (m : Known) (scope : Scope) (all : (name : Text) (a : Assignment) → find name m.assignments ≡ Some a → binds scope a.number ≡ true) where
  covers : (hidden : Text → Bool) (e : Expression) → BindsRead m hidden scope e
  covers hidden e name a reads found = all name a found

  optional : (hidden : Text → Bool) (o : Option Expression) → IfSome o (BindsRead m hidden scope)
  optional hidden None = tt
  optional hidden (Some e) = covers hidden e

  pub covers_one : (e : Expression) → IsCovered m scope e
  covers_one e = record { hidden = none_hidden; bound = λ name h. absurd (cc); covers = covers none_hidden e }

  pub covers_each : (es : List Expression) → All (IsCovered m scope) es
  covers_each es = λ k d l. covers_one _

  pub covers_parameters : (hidden : Text → Bool) (ps : List Parameter) → AreParametersCovered m scope hidden ps
  covers_parameters hidden [] = tt
  covers_parameters hidden (p ∷ ps) = (optional hidden p.default, (optional hidden p.value, covers_parameters (hidden_after hidden p) ps))
