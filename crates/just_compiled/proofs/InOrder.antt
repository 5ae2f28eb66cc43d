-- The variables of a module that is compiled, in the order in which they are evaluated.
use Rattle.std.proofs.Common.{◌≡◌, List, [], refl, sym, subst₂}
use Rattle.just_ast_definitions.specs.declared.assignment.Assignment.{Assignment}
use Rattle.just_ast_definitions.specs.declared.function_definition.FunctionDefinition.{FunctionDefinition}
use Rattle.just_ast_references.proofs.Renumbering.{keeps_references}
use Rattle.just_ast_references.specs.References.{references}
use Rattle.just_compiled.specs.Variables.{HasVariables}
use Rattle.just_justfile.specs.Running.{known_by_tables}
use Rattle.just_justfile.specs.declared.justfile.Justfile.{Justfile, out-Justfile}
use Rattle.just_module_contents.specs.Contents.{Contents}
use Rattle.just_module_variables.proofs.Similar.{changed_similar, order_of_similar, similar_changed}
use Rattle.just_module_variables.specs.Numbered.{number_in_function, numbered_assignment, numbered_assignments, numbered_function, numbered_functions}
use Rattle.just_module_variables.specs.Variables.{known_with_numbers}
use Rattle.just_names.specs.Index.{texts_of_names}
use Rattle.just_names.specs.Texts.{Text}
use Rattle.just_parts.specs.Known.{Known, sources}
use Rattle.just_parts.specs.Reading.{IsEvaluationOrder}
use Rattle.just_parts.specs.Syntax.{SyntaxAnswers}

module _ (m : Known) where
  value_same : (a : Assignment) → references (numbered_assignment m a).value ≡ references a.value
  value_same a = keeps_references (number_in_function m []) a.value

  body_same : (f : FunctionDefinition) → references (numbered_function m f).body ≡ references f.body
  body_same f = keeps_references (number_in_function m f.parameters) f.body

  -- numbers in expressions change nothing of an order
  order_numbered : (order : List Text) → IsEvaluationOrder m order → IsEvaluationOrder (sources (numbered_assignments m) (numbered_functions m)) order
  order_numbered order is =
      order_of_similar m (sources (numbered_assignments m) (numbered_functions m))
      (similar_changed (numbered_assignment m) (numbered_function m) value_same (λ f. refl) body_same m.assignments m.functions)
      (changed_similar (numbered_assignment m) (numbered_function m) value_same (λ f. refl) body_same m.assignments m.functions) order is

-- so what a justfile has is an order of its variables
pub in_order : (answers : SyntaxAnswers) (m : Contents) (j : Justfile) → HasVariables answers m j → IsEvaluationOrder (known_by_tables j) (texts_of_names (out-Justfile j).evaluation_order)
in_order answers m j is =
    subst₂ (λ (vs : List (Text × Assignment)) (fs : List (Text × FunctionDefinition)). IsEvaluationOrder (sources vs fs) (texts_of_names (out-Justfile j).evaluation_order)) (sym is.assignments_are) (sym is.functions_are)
    (order_numbered (known_with_numbers answers m) (texts_of_names (out-Justfile j).evaluation_order) is.evaluation_order.in_order)
