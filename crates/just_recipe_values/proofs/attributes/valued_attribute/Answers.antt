use Rattle.std.proofs.Common.{subst, sym}
use Rattle.std.specs.List.{Contains}
use Rattle.just_parts.specs.Scopes.{compiled_expressions}
use Rattle.just_ast_definitions.specs.declared.attribute.Attribute.{Attribute}
use Rattle.just_ast_expressions.specs.declared.expression.Expression.{Expression}
use Rattle.just_recipe_values.proofs.attributes.valued_attribute.Goals as goal

pub valued_argument-requires : goal.valued_argument-requires
valued_argument-requires g c = λ e there. c.requires e (subst (λ (a : Attribute Expression). Contains (compiled_expressions a) e) (sym c.in-Arg.is) there)
