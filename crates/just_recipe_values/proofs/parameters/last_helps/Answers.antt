use Rattle.std.proofs.Common.{refl}
use Rattle.std.specs.HashMap.{get}
use Rattle.std.specs.Str.{bytes_eq}
use Rattle.just_ast_definitions.specs.declared.attribute.NamedAttribute.{NamedAttribute}
use Rattle.just_ast_expressions.specs.declared.expression.Expression.{Expression}
use Rattle.just_names.specs.Texts.{Text}
use Rattle.just_recipe_values.specs.Valued.{last_help, help_by}
use Rattle.just_recipe_values.proofs.Saying.{last_more}
use Rattle.just_recipe_values.proofs.parameters.last_helps.Goals as goal

pub loop-named-preserved : goal.loop-named-preserved
loop-named-preserved c =
    last_more (λ (named : NamedAttribute Expression) (name : Text). help_by named.attribute name) last_help (λ name. refl) (λ x xs name. refl)
    c.args.attributes.now c.loop-named.named-index c.named-item.result c.loop-named-test.true c.named-item.is
    (get bytes_eq c.loop-named.helps) (get bytes_eq c.see_help.new.helps) c.loop-named.invariant c.in_ok-see_help.ensures
