-- What a module comes to.
use Rattle.std.proofs.Common.{◌≡◌, ℕ, List, Option, Some, map, refl, ◌∙◌, ap}
use Rattle.std.specs.List.{slice_get}
use Rattle.std.specs.Map.{values_of}
use Rattle.just_names.specs.Texts.{Text}
use Rattle.just_names.specs.declared.name.Name.{Name}
use Rattle.just_names.specs.declared.number.Number.{Number}
use Rattle.just_ast_definitions.specs.declared.assignment.Assignment.{Assignment}
use Rattle.just_ast_definitions.specs.declared.function_definition.FunctionDefinition.{FunctionDefinition}
use Rattle.just_ast_definitions.specs.declared.function_definition.FunctionParameter.{FunctionParameter}
use Rattle.just_table.specs.Entries.{IsKeyed, IsSorted}
use Rattle.just_module_variables.specs.Numbered.{assignment_by, function_numbered, name_of_assignment, name_of_function, number_by, number_in_function}
use Rattle.just_module_variables.specs.loops.Numbered.{AreBindings, assignments_by, functions_by}
use Rattle.just_module_variables.specs.Resolved.{AreVariablesResolved}
use Rattle.just_module_variables.proofs.Order.{name_of, order_named}
use Rattle.just_module_variables.proofs.Tables.{put_map}
use Rattle.just_parts.specs.Known.{Known}
use Rattle.just_parts.specs.Reading.{IsEvaluationOrder}
use Rattle.just_module_variables.specs.loops.Steps.{variable_names_at}
use Rattle.just_name_resolution.proofs.Alike.{changed}

module _ (m : Known) (sorted : IsSorted m.assignments) (sorted_functions : IsSorted m.functions) (numbers : Text → Option Number) (are : AreBindings m.assignments numbers) where
  -- the tables of the values and bodies with numbers, and the names in an evaluation order, are what it comes to
  pub resolved : (names order : List Name) (places : List ℕ) (assignments : List (Text × Assignment)) (functions : List (Text × FunctionDefinition))
      → names ≡ map name_of (values_of m.assignments) → map Some order ≡ map (slice_get names) places → IsEvaluationOrder m (variable_names_at m places)
      → assignments ≡ assignments_by (number_by numbers m.constant) (values_of m.assignments) → functions ≡ functions_by (number_by numbers m.constant) (values_of m.functions)
      → IsKeyed name_of_assignment m.assignments → IsKeyed name_of_function m.functions → AreVariablesResolved m numbers order assignments functions
  resolved names order places assignments functions named at in_order variables bodies keyed keyed_functions =
      let number : List FunctionParameter → Text → Option Number = number_by numbers m.constant in
      let same : number ≡ number_in_function m = λ i. number_by (λ name. are keyed name i) m.constant in
      record {
        bindings = are keyed;
        evaluation_order = order_named m names order places sorted keyed named at in_order;
        assignments_are = variables ∙ put_map name_of_assignment (assignment_by number) (λ a. refl) m.assignments sorted keyed
            ∙ ap (λ (n : List FunctionParameter → Text → Option Number). changed (assignment_by n) m.assignments) same;
        functions_are = bodies ∙ put_map name_of_function (function_numbered number) (λ f. refl) m.functions sorted_functions keyed_functions
            ∙ ap (λ (n : List FunctionParameter → Text → Option Number). changed (function_numbered n) m.functions) same;
      }
