use Rattle.std.proofs.Common.{refl}
use Rattle.std.specs.HashMap.{get}
use Rattle.std.specs.Str.{bytes_eq}
use Rattle.just_ast_definitions.specs.declared.attribute.NamedAttribute.{NamedAttribute}
use Rattle.just_ast_expressions.specs.declared.expression.Expression.{Expression}
use Rattle.just_names.specs.Texts.{Text}
use Rattle.just_recipe_values.specs.Valued.{last_pattern, pattern_by}
use Rattle.just_recipe_values.proofs.Saying.{last_more}
use Rattle.just_recipe_values.proofs.parameters.last_patterns.Goals as goal

pub loop-named-preserved : goal.loop-named-preserved
loop-named-preserved c =
    last_more (λ (named : NamedAttribute Expression) (name : Text). pattern_by named.attribute name) last_pattern (λ name. refl) (λ x xs name. refl)
    c.args.attributes.now c.loop-named.named-index c.named-item.result c.loop-named-test.true c.named-item.is
    (get bytes_eq c.loop-named.patterns) (get bytes_eq c.see_pattern.new.patterns) c.loop-named.invariant c.in_ok-see_pattern.ensures
