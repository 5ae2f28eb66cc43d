-- What the variables and functions of a module come to.
use Rattle.std.specs.Prelude.{◌≡◌, List, Option, Some}
use Rattle.std.specs.HashMap.{HashMap, get}
use Rattle.std.specs.List.{Contains}
use Rattle.std.specs.Str.{bytes_eq}
use Rattle.std.specs.declared.alloc.Global.{Global}
use Rattle.std.specs.declared.vec.Vec.{Vec}
use Rattle.just_names.specs.Index.{texts_of_names}
use Rattle.just_names.specs.Texts.{Text}
use Rattle.just_names.specs.Name.{text_of_name}
use Rattle.just_names.specs.declared.name.Name.{Name}
use Rattle.just_names.specs.declared.number.Number.{Number}
use Rattle.just_ast_definitions.specs.declared.assignment.Assignment.{Assignment}
use Rattle.just_ast_definitions.specs.declared.function_definition.FunctionDefinition.{FunctionDefinition}
use Rattle.just_table.specs.Entries.{IsKeyed, find}
use Rattle.just_module_variables.specs.Numbered.{name_of_assignment, name_of_function, numbered_assignments, numbered_functions}
use Rattle.just_parts.specs.Known.{Known, number_of}
use Rattle.just_parts.specs.Reading.{IsEvaluationOrder}

-- Names of variables in an evaluation order, each as it is assigned.
pub record AreInOrder (m : Known) (order : List Name) : Type 0 where
  pub in_order : IsEvaluationOrder m (texts_of_names order)
  pub assigned : (name : Name) → Contains order name → (a : Assignment) × (find (text_of_name name) m.assignments ≡ Some a) × (a.name ≡ name)

-- The numbers of the variables, their names in an evaluation order, and both tables with the numbers of what their names mean.
pub record AreVariablesResolved (m : Known) (numbers : Text → Option Number) (order : List Name) (assignments : List (Text × Assignment)) (functions : List (Text × FunctionDefinition)) : Type 0 where
  pub bindings : (name : Text) → numbers name ≡ number_of m name
  pub evaluation_order : AreInOrder m order
  pub assignments_are : assignments ≡ numbered_assignments m
  pub functions_are : functions ≡ numbered_functions m

-- So a module comes to these, if each of its variables and functions stands under its own name.
abbrev pub ResolvesTo : {S : Type 0} → Known → HashMap Text Number S × Vec Name Global → List (Text × Assignment) → List (Text × FunctionDefinition) → Type 0
ResolvesTo m made assignments functions =
    IsKeyed name_of_assignment m.assignments → IsKeyed name_of_function m.functions → AreVariablesResolved m (get bytes_eq made.0) made.1.items assignments functions
