-- What the questions of a run ask of the scope that is handed over, and what they bind.
use Rattle.std.specs.Prelude.{◌≡◌, Bool, true, false, ◌||◌, List, [], ◌∷◌, Option, None, Some, IsSome, IfSome}
use Rattle.std.specs.HashMap.{get}
use Rattle.std.specs.List.{list_any}
use Rattle.std.specs.Str.{bytes_eq}
use Rattle.just_ast_expressions.specs.declared.expression.Expression.{Expression}
use Rattle.just_ast_expressions.specs.declared.scope.Binding.{Binding}
use Rattle.just_ast_expressions.specs.declared.scope.Scope.{Scope}
use Rattle.just_names.specs.Index.{texts_of_names}
use Rattle.just_names.specs.Name.{text_of_name}
use Rattle.just_names.specs.Texts.{Text}
use Rattle.just_names.specs.declared.number.Number.{Number}
use Rattle.just_ast_definitions.specs.declared.assignment.Assignment.{Assignment}
use Rattle.just_ast_definitions.specs.declared.parameter.Parameter.{Parameter}
use Rattle.just_table.specs.Entries.{find}
use Rattle.just_run_layers.specs.declared.context.Context.{Context}
use Rattle.just_run_layers.specs.Evaluation.{NumberSet, in_set}
use Rattle.just_parts.specs.Evaluator.{Wanted, scope_values, wanted_by}
use Rattle.just_parts.specs.Known.{Known, none_hidden, sources}
use Rattle.just_parts.specs.Needs.{IsClosed, has_number, same_number}
use Rattle.just_parts.specs.Reading.{IsEvaluationOrder, Reads}

-- a scope binds the definition of a number
abbrev pub binds : Scope → Number → Bool
binds scope number = list_any (λ (b : Binding). same_number b.number number) scope.bindings

-- what the tables of a module say
abbrev pub module_of : Context → Known
module_of context = sources context.assignments.now context.functions.now

-- Each variable that an expression reads is bound, where some names are hidden.
abbrev pub BindsRead : Known → (Text → Bool) → Scope → Expression → Type 0
BindsRead m hidden scope e = (name : Text) (a : Assignment) → Reads m hidden e name → find name m.assignments ≡ Some a → binds scope a.number ≡ true

-- An expression may be evaluated in a scope: names are hidden that the scope binds too, and each variable that is read is bound.
pub record IsCovered (m : Known) (scope : Scope) (e : Expression) : Type 0 where
  pub hidden : Text → Bool
  pub bound : (name : Text) → hidden name ≡ true → IsSome (scope_values scope name)
  pub covers : BindsRead m hidden scope e

-- a parameter has the name
abbrev pub has_parameter : List Parameter → Text → Bool
has_parameter parameters name = list_any (λ (p : Parameter). bytes_eq (text_of_name p.name) name) parameters

-- the name is hidden already, or that of a parameter
abbrev pub hidden_after : (Text → Bool) → Parameter → Text → Bool
hidden_after hidden p name = hidden name || bytes_eq (text_of_name p.name) name

-- Parameters may be evaluated in a scope: what the values of each read is bound, where the names of those before it are hidden.
abbrev pub AreParametersCovered : Known → Scope → (Text → Bool) → List Parameter → Type 0
AreParametersCovered m scope hidden [] = Unit {0}
AreParametersCovered m scope hidden (p ∷ ps) = IfSome p.default (BindsRead m hidden scope) × (IfSome p.value (BindsRead m hidden scope) × AreParametersCovered m scope (hidden_after hidden p) ps)

-- the order that a module hands over is one in which its variables are evaluated
abbrev pub HasEvaluationOrder : Context → Type 0
HasEvaluationOrder context = IsEvaluationOrder (module_of context) (texts_of_names context.evaluation_order.now)

-- the set of a question for variables is closed: with a variable that is not overridden it has what that reads
abbrev pub IsClosedIn : Context → NumberSet → Type 0
IsClosedIn context set = IsClosed (module_of context) (has_number context.overrides.now) (in_set set)

-- what is to be bound then
abbrev pub wanted_in : Context → NumberSet → Wanted
wanted_in context set = wanted_by context.assignments.now context.functions.now (get same_number context.overrides.now) (in_set set) context.settings.now.lists

-- A scope binds what another binds, and parameters, which hide it.
pub record BindsParameters (parameters : List Parameter) (old new : Scope) : Type 0 where
  pub exactly : (number : Number) → binds new number ≡ (list_any (λ (p : Parameter). same_number p.number number) parameters || binds old number)
  pub named : (name : Text) → has_parameter parameters name ≡ true → IsSome (scope_values new name)
  pub others : (name : Text) → has_parameter parameters name ≡ false → scope_values new name ≡ scope_values old name
