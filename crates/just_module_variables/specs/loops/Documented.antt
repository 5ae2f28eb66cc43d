-- What private functions say beside `Documented.antt`.
use Rattle.std.specs.Prelude.{◌≡◌, List, Option, None, Some}
use Rattle.just_names.specs.Texts.{Text}
use Rattle.just_names.specs.Token.{Place}
use Rattle.just_errors.specs.Causes.{Broken, Cause, Keeps}
use Rattle.just_errors.specs.declared.compile_error.CompileErrorKind.TheVariants as kind
use Rattle.just_errors.specs.declared.fault.Fault.{Fault}
use Rattle.just_parts.specs.Evaluator.{Covers, Evaluator, Values, functions_by_name}
use Rattle.just_parts.specs.Known.{Known, known, none_hidden, sources}
use Rattle.just_parts.specs.Syntax.{SyntaxAnswers}
use Rattle.just_ast_references.specs.Numbers.{bare}
use Rattle.just_parts.specs.Misnaming.{Misnames}
use Rattle.just_module_variables.specs.declared.variables.Variables.{Variables}
use Rattle.just_module_contents.specs.declared.labels.Label.{Label}
use Rattle.just_ast_expressions.specs.declared.expression.Expression.{Expression}

-- what names stand for in a module, by its tables
abbrev pub known_by : SyntaxAnswers → Variables → Known
known_by answers variables = known answers variables.assignments variables.functions

-- the value of an expression among constants, by the tables of a module
abbrev pub value_by_tables : Evaluator → Variables → Values → Expression → Option (List Text)
value_by_tables evaluator variables values e = evaluator.value (functions_by_name variables.functions) values (bare e)

-- whatever the doc of a declaration reads, as the tables of a module have it, has a value
abbrev pub CoversDoc : Variables → Values → Label → Type 0
CoversDoc variables values label = (e : Expression) → label.doc_expression ≡ Some e → Covers (sources variables.assignments variables.functions) values e

-- no name in it is at fault
abbrev pub KeepsDoc : SyntaxAnswers → Variables → Label → Type 0
KeepsDoc answers variables label = (e : Expression) → label.doc_expression ≡ Some e → Keeps (Misnames (known_by answers variables) none_hidden e)

-- A name in the doc of a declaration is at fault, or it has no value.
pub data DocFault (m : Known) (value : Expression → Option (List Text)) (said : Option Expression) : Cause → Type 0 where
  misnamed : {e : Expression} {c : Cause} → said ≡ Some e → Misnames m none_hidden e c → DocFault m value said c
  no_value : {e : Expression} {place : Place} {fault : Fault} → said ≡ Some e → value e ≡ None → DocFault m value said (Broken place (kind.Evaluate fault))
