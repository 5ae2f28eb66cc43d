-- What private functions say beside `Lookup.antt`.
use Rattle.std.specs.Prelude.{◌≡◌, List, Option, None, Some, if◌then◌else◌}
use Rattle.std.specs.Str.{bytes_eq}
use Rattle.just_errors.specs.declared.compile_error.CompileErrorKind.TheVariants as kind
use Rattle.just_errors.specs.declared.error.Error.{Error}
use Rattle.just_errors.specs.declared.error.Error.TheVariants as error
use Rattle.just_ast_definitions.specs.declared.function_definition.FunctionDefinition.{FunctionDefinition}
use Rattle.just_names.specs.declared.name.Name.{Name}
use Rattle.just_parts.specs.Told.{IsPlaceIn}
use Rattle.just_names.specs.Texts.{Text}
use Rattle.just_names.specs.Name.{text_of_name}
use Rattle.just_names.specs.Token.{Place}
use Rattle.just_table.specs.Entries.{find}

-- a function, where it has this name
abbrev pub named_so : FunctionDefinition → Text → Option FunctionDefinition
named_so f name = if bytes_eq name (text_of_name f.name) then Some f else None

-- a message is told at a token; want of memory aside
abbrev pub IsToldAt : Place → Text → Error → Type 0
IsToldAt place message (error.Compile e) = (e.token ≡ place) × (e.kind ≡ kind.Evaluate (record { message = message }))
IsToldAt place message error.Memory = Unit {0}
IsToldAt place message error.Exhausted = ⊥
IsToldAt place message (error.Load e) = ⊥
IsToldAt place message (error.Invocation e) = ⊥
IsToldAt place message (error.Run e) = ⊥

-- a place of a call: that of its name, or one of the body that is called
pub data IsPlaceOfCall (functions : List (Text × FunctionDefinition)) (name : Name) (place : Place) : Type 0 where
  at_call : place ≡ name.token → IsPlaceOfCall functions name place
  in_called : {f : FunctionDefinition} → find (text_of_name name) functions ≡ Some f → IsPlaceIn functions f.body place → IsPlaceOfCall functions name place
