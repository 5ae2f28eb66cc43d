use Rattle.std.proofs.Common.{◌≡◌, ℕ, ◌<◌, Some}
use Rattle.std.specs.List.{slice_get}
use Rattle.just_ast_expressions.specs.declared.list_use.ListUse.{ListUse}
use Rattle.just_module_contents.specs.Contents.{function_texts}
use Rattle.just_module_contents.specs.Definitions.{contents_in, lists_in}
use Rattle.just_module_contents.specs.Rules.{StandsFor}
use Rattle.just_module_bodies.proofs.bodies.check_uses.Given as goal

abbrev pub invariant-loop-place : goal.invariant-loop-place
invariant-loop-place l = (k : ℕ) (used : ListUse) → k < l.place → slice_get (lists_in l.definitions) k ≡ Some used → StandsFor (function_texts (contents_in l.definitions)) used
