-- Where a fault of the evaluation is told.
use Rattle.std.specs.Prelude.{◌≡◌, ℕ, List, [], map, Some}
use Rattle.std.specs.List.{Contains}
use Rattle.just_names.specs.Texts.{Text}
use Rattle.just_names.specs.Name.{text_of_name}
use Rattle.just_names.specs.Token.{Place}
use Rattle.just_names.specs.declared.name.Name.{Name}
use Rattle.just_errors.specs.declared.error.Error.{Error}
use Rattle.just_errors.specs.declared.error.Error.TheVariants as error
use Rattle.just_ast_definitions.specs.declared.assignment.Assignment.{Assignment}
use Rattle.just_ast_definitions.specs.declared.function_definition.FunctionDefinition.{FunctionDefinition}
use Rattle.just_ast_expressions.specs.declared.expression.Expression.{Expression}
use Rattle.just_ast_expressions.specs.Parts.{parts}
use Rattle.just_ast_references.specs.References.{mention}
use Rattle.just_ast_references.specs.declared.references.Reference.{Reference}
use Rattle.just_ast_references.specs.declared.references.Reference.TheVariants as reference
use Rattle.just_table.specs.Entries.{find}

-- the name of a call or of a variable
abbrev pub name_of : Reference → Name
name_of (reference.Call name arguments) = name
name_of (reference.Variable name) = name

-- the place of what has no name: it is in no file
abbrev pub nowhere : Place
nowhere = record { line = 0; column = 0; offset = 0; length = 0; path = []; src = [] }

-- A place of what an expression comes to: that of the call or the variable that it is, or one of its parts, or of the body of the function that it calls; or, of one that is neither, nowhere.
pub data IsPlaceIn (functions : List (Text × FunctionDefinition)) : Expression → Place → Type 0 where
  at_name : {e : Expression} (at : Reference) → Contains (mention e) at → IsPlaceIn functions e (name_of at).token
  in_part : {e : Expression} {place : Place} (part : Expression) → Contains (parts e) part → IsPlaceIn functions part place → IsPlaceIn functions e place
  in_body : {e : Expression} {f : FunctionDefinition} {place : Place} (name : Name) (arguments : ℕ) → Contains (mention e) (reference.Call name arguments)
      → find (text_of_name name) functions ≡ Some f → IsPlaceIn functions f.body place → IsPlaceIn functions e place
  of_no_name : {e : Expression} → mention e ≡ [] → IsPlaceIn functions e nowhere

-- the same of one of several expressions
pub record IsPlaceInOne (functions : List (Text × FunctionDefinition)) (es : List Expression) (place : Place) : Type 0 where
  pub e : Expression
  pub there : Contains es e
  pub in_it : IsPlaceIn functions e place

-- the values of the variables of a table, as they are assigned
abbrev pub assigned_values : List (Text × Assignment) → List Expression
assigned_values = map (λ (entry : Text × Assignment). entry.1.value)

-- an error of compilation is told at one of these places
abbrev pub IsToldIn : (Place → Type 0) → Error → Type 0
IsToldIn places (error.Compile e) = places e.token
IsToldIn places (error.Load e) = Unit {0}
IsToldIn places (error.Invocation e) = Unit {0}
IsToldIn places (error.Run e) = Unit {0}
IsToldIn places error.Exhausted = Unit {0}
IsToldIn places error.Memory = Unit {0}
