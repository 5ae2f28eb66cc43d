use Rattle.std.proofs.Common.{◌≡◌, ◌<◌, ℕ, Some, false}
use Rattle.std.specs.List.{slice_get}
use Rattle.just_ast_definitions.specs.declared.attribute.NamedAttribute.{NamedAttribute}
use Rattle.just_ast_expressions.specs.declared.expression.Expression.{Expression}
use Rattle.just_module_contents.specs.Shells.{is_of_scripts}
use Rattle.just_module_bodies.proofs.shells.check_attributes.Given as goal

abbrev pub invariant-loop-place : goal.invariant-loop-place
invariant-loop-place l = (k : ℕ) (named : NamedAttribute Expression) → k < l.place → slice_get l.attributes k ≡ Some named → is_of_scripts named.attribute ≡ false
