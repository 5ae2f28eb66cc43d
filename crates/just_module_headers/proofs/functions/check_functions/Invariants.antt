use Rattle.std.proofs.Common.{◌≡◌, ℕ, ◌<◌, Some}
use Rattle.std.specs.List.{slice_get}
use Rattle.just_ast_definitions.specs.declared.function_definition.FunctionDefinition.{FunctionDefinition}
use Rattle.just_module_contents.specs.Contents.{signature}
use Rattle.just_names.specs.Index.{texts_of_names, AreDifferent}
use Rattle.just_module_contents.specs.Definitions.{functions_in}
use Rattle.just_module_headers.proofs.functions.check_functions.Given as goal

abbrev pub invariant-loop-place : goal.invariant-loop-place
invariant-loop-place l = (k : ℕ) (f : FunctionDefinition) → k < l.place → slice_get (functions_in l.definitions) k ≡ Some f → AreDifferent (texts_of_names (signature f).parameters)
